-- The last steps: an outer value, and a file.
use Rattle.std.proofs.Common.{◌≡◌, ◌<◌, ◌≤◌, Bool, true, false, cond, ltb, List, [], ◌∷◌, length, Some, Result, Ok, Err, refl, sym, ap, ◌∙◌, arith}
use Rattle.std.proofs.lemmas.Bool.{lt-ltb, le-ltb}
use Rattle.outcomes.specs.Answering.{Gives}
use Rattle.outcomes.specs.Firsts.{◌>>=◌}
use Rattle.outcomes.proofs.Answering.{unless-map}
use Rattle.serde_json.specs.Data.{Data}
use Rattle.serde_json.specs.View.{items_view}
use Rattle.serde_json.specs.declared.value.Value.{Value}
use Rattle.tests_text.specs.declared.refusal.TestRefusal.{TestRefusal}
use Rattle.tests_text.specs.declared.refusal.TestRefusal.TheVariants.{Memory, TooMany}
use Rattle.tests_text.specs.declared.test.Test.{Test}
use Rattle.tests_text.specs.declared.test.Tests.{Tests}
use Rattle.tests_text.specs.Reading.{outer_of}
use Rattle.tests_text.specs.ReadingTests.{count_of, file_of, tests_from, tests_in}

pub count-view : (xs : List Value) → count_of (items_view xs) ≡ length xs
count-view [] = refl
count-view (x ∷ xs) = let e = count-view xs in omega arith

abbrev with_tests : List Test → Tests
with_tests ts = record { tests = ts }

pub file-many : (d : Data) (xs : List Value) → Some (items_view xs) ≡ outer_of d → 64 < length xs → file_of d ≡ Err TooMany
unfolding file_of
file-many d xs outer many =
    let high : ltb 64 (count_of (items_view xs)) ≡ true = lt-ltb 64 (count_of (items_view xs)) (omega (arith, count-view xs)) in
    ap tests_in (sym outer) ∙ ap (λ (t : Bool). cond t (Err TooMany) (tests_from 1 (items_view xs) >>= λ ts. Ok (with_tests ts))) high

file-few : (d : Data) (xs : List Value) → Some (items_view xs) ≡ outer_of d → length xs ≤ 64 → file_of d ≡ (tests_from 1 (items_view xs) >>= λ ts. Ok (with_tests ts))
unfolding file_of
file-few d xs outer few =
    let low : ltb 64 (count_of (items_view xs)) ≡ false = le-ltb 64 (count_of (items_view xs)) (omega (arith, count-view xs)) in
    ap tests_in (sym outer) ∙ ap (λ (t : Bool). cond t (Err TooMany) (tests_from 1 (items_view xs) >>= λ ts. Ok (with_tests ts))) low

pub file-ok : (d : Data) (xs : List Value) (ts : List Test) → Some (items_view xs) ≡ outer_of d → length xs ≤ 64 → tests_from 1 (items_view xs) ≡ Ok ts
    → file_of d ≡ Ok (record { tests = ts })
file-ok d xs ts outer few read = file-few d xs outer few ∙ ap (λ (r : Result (List Test) TestRefusal). r >>= λ us. Ok (with_tests us)) read

stopped : (d : Data) (xs : List Value) (e : TestRefusal) → Some (items_view xs) ≡ outer_of d → length xs ≤ 64 → tests_from 1 (items_view xs) ≡ Err e → file_of d ≡ Err e
stopped d xs e outer few read = file-few d xs outer few ∙ ap (λ (r : Result (List Test) TestRefusal). r >>= λ us. Ok (with_tests us)) read

pub file-err : (d : Data) (xs : List Value) (e : TestRefusal) → Some (items_view xs) ≡ outer_of d → length xs ≤ 64
    → Gives {A = List Test} Memory (Err e) (tests_from 1 (items_view xs)) → Gives {A = Tests} Memory (Err e) (file_of d)
file-err d xs e outer few gives = unless-map (stopped d xs e outer few) gives
