-- Single steps of the code's loops: what is read so far, and what is left.
use Rattle.std.proofs.Common.{◌≡◌, ℕ, ◌+◌, List, [], ◌∷◌, ◌++◌, Result, Ok, Err, refl, sym, ap, ◌∙◌, append_assoc, append-nil}
use Rattle.outcomes.specs.Answering.{Gives}
use Rattle.outcomes.specs.Firsts.{◌>>=◌}
use Rattle.outcomes.proofs.Answering.{unless-map}
use Rattle.serde_json.specs.Data.{Data, Items, item, no_items}
use Rattle.tests_text.specs.declared.refusal.TestRefusal.{TestRefusal}
use Rattle.tests_text.specs.declared.refusal.TestRefusal.TheVariants.{Memory}
use Rattle.tests_text.specs.declared.test.Test.{Test}
use Rattle.tests_text.specs.ReadingTests.{test_of, tests_from}

-- what the tests that are left give, behind those so far
abbrev pub behind_those : List Test → Result (List Test) TestRefusal → Result (List Test) TestRefusal
behind_those ts left = left >>= λ more. Ok (ts ++ more)

behind_those-cons : (ts : List Test) (t : Test) (left : Result (List Test) TestRefusal) → behind_those ts (left >>= λ more. Ok (t ∷ more)) ≡ behind_those (ts ++ t ∷ []) left
behind_those-cons ts t (Ok more) = ap (λ (x : List Test). Ok x) (sym (append_assoc ts (t ∷ []) more))
behind_those-cons ts t (Err e) = refl

-- a test that is read
pub test-more : (k : ℕ) (d : Data) (ds : Items) (ts kept : List Test) (t : Test) → test_of k d ≡ Ok t → kept ≡ ts ++ t ∷ []
    → behind_those ts (tests_from k (item d ds)) ≡ behind_those kept (tests_from (k + 1) ds)
unfolding tests_from
test-more k d ds ts kept t read grown =
    ap (λ (r : Result Test TestRefusal). behind_those ts (r >>= λ x. (tests_from (k + 1) ds >>= λ more. Ok (x ∷ more)))) read
    ∙ behind_those-cons ts t (tests_from (k + 1) ds) ∙ ap (λ (xs : List Test). behind_those xs (tests_from (k + 1) ds)) (sym grown)

stops : (k : ℕ) (d : Data) (ds : Items) (ts : List Test) (e : TestRefusal) → test_of k d ≡ Err e → behind_those ts (tests_from k (item d ds)) ≡ Err e
unfolding tests_from
stops k d ds ts e read = ap (λ (r : Result Test TestRefusal). behind_those ts (r >>= λ x. (tests_from (k + 1) ds >>= λ more. Ok (x ∷ more)))) read

-- a test that is refused is the answer
pub test-stop : (whole : Result (List Test) TestRefusal) (k : ℕ) (d : Data) (ds : Items) (ts : List Test) (e : TestRefusal) → whole ≡ behind_those ts (tests_from k (item d ds))
    → Gives {A = Test} Memory (Err e) (test_of k d) → Gives {A = List Test} Memory (Err e) whole
test-stop whole k d ds ts e is gives = unless-map (λ (read : test_of k d ≡ Err e). is ∙ stops k d ds ts e read) gives

-- no test is left
pub tests-end : (k : ℕ) (ts : List Test) → behind_those ts (tests_from k no_items) ≡ Ok ts
unfolding tests_from
tests-end k ts = ap (λ (xs : List Test). Ok xs) (append-nil ts)
