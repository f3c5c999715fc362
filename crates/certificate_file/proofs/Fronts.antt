-- A list that is read in turns: what was found, before what is read of the rest.
use Rattle.std.proofs.Common.{◌≡◌, ℕ, suc, zero, ◌+◌, ◌-◌, ◌<◌, ◌≤◌, List, [], ◌∷◌, ◌++◌, false, eqb, Ok, Err, refl, sym, ap, ◌∙◌, subst, append_assoc, arith}
use Rattle.std.proofs.lemmas.Bool.{ne_eqb}
use Rattle.std.proofs.lemmas.List.{append-nil}
use Rattle.certificate_file.specs.ProductReading.{end_at}
use Rattle.outcomes.specs.Firsts.{◌>>=◌}
use Rattle.std.specs.Prelude.{Result, IsErrAnd}
use Rattle.std.specs.Borrow.{Bor}
use Rattle.text_codes.specs.Readers.{Reading, times_at, line_at, numbered_at}
use Rattle.text_codes.specs.Stops.{Gives, StopsAt}
use Rattle.text_codes.specs.declared.stop.Stop.{Stop}
use Rattle.text_codes.specs.declared.stop.Stop.TheVariants.{Memory, At}

-- these before what is read
unfoldable pub with_front : {V : Type 0} → List V → Reading (List V) → Reading (List V)
with_front {V = V} vs q = q >>= λ (y : List V × List ℕ). let z : List V × List ℕ = (vs ++ y.0, y.1) in Ok z

pub front_fails : {V : Type 0} (vs : List V) (left : List ℕ) → with_front vs (Err left) ≡ Err left
unfolding with_front
front_fails vs left = refl

pub front_none : {V : Type 0} (q : Reading (List V)) → with_front [] q ≡ q
unfolding with_front
front_none (Ok y) = refl
front_none (Err left) = refl

pub front_more : {V : Type 0} (vs : List V) (v : V) (q : Reading (List V))
    → with_front vs (q >>= λ (y : List V × List ℕ). let z : List V × List ℕ = (v ∷ y.0, y.1) in Ok z) ≡ with_front (vs ++ v ∷ []) q
unfolding with_front
front_more {V = V} vs v (Ok y) = ap (λ (t : List V). let z : List V × List ℕ = (t, y.1) in Ok z) (sym (append_assoc vs (v ∷ []) y.0))
front_more vs v (Err left) = refl

pub front_all : {V : Type 0} (vs : List V) (rest : List ℕ) → with_front vs (Ok ([], rest)) ≡ Ok (vs, rest)
unfolding with_front
front_all {V = V} vs rest = ap (λ (t : List V). let z : List V × List ℕ = (t, rest) in Ok z) (append-nil vs)

-- the list that was found, fitted, is what is read
pub as_fitted : {V : Type 0} (q : Reading (List V)) (found fitted : List V) (rest : List ℕ) → fitted ≡ found → q ≡ Ok (found, rest) → q ≡ Ok (fitted, rest)
as_fitted {V = V} q found fitted rest same e = subst (λ (vs : List V). q ≡ Ok (vs, rest)) (sym same) e

before : (n : ℕ) → 0 < n → n ≡ suc (n - 1)
before n h = omega arith

-- so many values

pub times_more : {V : Type 0} (r : List ℕ → Reading V) (vs : List V) (n : ℕ) (rest after : List ℕ) (v : V) → 0 < n → r rest ≡ Ok (v, after)
    → with_front vs (times_at r n rest) ≡ with_front (vs ++ v ∷ []) (times_at r (n - 1) after)
unfolding times_at
times_more {V = V} r vs n rest after v some e =
    ap (λ (m : ℕ). with_front vs (times_at r m rest)) (before n some)
    ∙ (ap (λ (q : Reading V). with_front vs (q >>= λ (x : V × List ℕ). (times_at r (n - 1) x.1 >>= λ (y : List V × List ℕ). let z : List V × List ℕ = (x.0 ∷ y.0, y.1) in Ok z))) e
    ∙ front_more vs v (times_at r (n - 1) after))

pub times_fails : {V : Type 0} (r : List ℕ → Reading V) (vs : List V) (n : ℕ) (rest left : List ℕ) → 0 < n → r rest ≡ Err left
    → with_front vs (times_at r n rest) ≡ Err left
unfolding times_at
times_fails {V = V} r vs n rest left some e =
    ap (λ (m : ℕ). with_front vs (times_at r m rest)) (before n some)
    ∙ (ap (λ (q : Reading V). with_front vs (q >>= λ (x : V × List ℕ). (times_at r (n - 1) x.1 >>= λ (y : List V × List ℕ). let z : List V × List ℕ = (x.0 ∷ y.0, y.1) in Ok z))) e
    ∙ front_fails vs left)

pub times_done : {V : Type 0} (r : List ℕ → Reading V) (vs : List V) (n : ℕ) (rest : List ℕ) → n ≤ 0
    → with_front vs (times_at r n rest) ≡ Ok (vs, rest)
unfolding times_at
times_done r vs zero rest none = front_all vs rest
times_done r vs (suc n) rest none = absurd (omega arith)

-- errors that go on

-- what stops a part stops the whole
pub stops_whole : {X V W : Type 0} (view : X → W × List ℕ) (result : Result X Stop) (stop : Stop) (part : Reading V) (whole : Reading W)
    → IsErrAnd result (λ e. e ≡ stop) → StopsAt stop part → ((left : List ℕ) → part ≡ Err left → whole ≡ Err left) → Gives view result whole
stops_whole view (Ok x) stop part whole is at along = absurd is
stops_whole view (Err e) stop part whole is at along = subst (λ (s : Stop). StopsAt s whole) (sym is) (stopped stop at)
  where
    stopped : (s : Stop) → StopsAt s part → StopsAt s whole
    stopped Memory h = tt
    stopped (At left) h = along left.now h

-- no memory
pub no_memory : {X W : Type 0} (view : X → W × List ℕ) (result : Result X Stop) (whole : Reading W) → IsErrAnd result (λ e. e ≡ Memory) → Gives view result whole
no_memory view (Ok x) whole is = absurd is
no_memory view (Err e) whole is = subst (λ (s : Stop). StopsAt s whole) (sym is) tt

-- up to the end of the line

more_end : (n : ℕ) → 32 ≡ end_at (suc (suc n))
more_end n = let h : eqb (suc (suc n)) 1 ≡ false = ne_eqb (suc (suc n)) 1 (λ e. omega (arith, e)) in rw h refl

line_at-suc : {V : Type 0} (r : ℕ → List ℕ → Reading V) (n : ℕ) (rest : List ℕ)
    → line_at r (suc n) rest ≡ (r (end_at (suc n)) rest >>= λ (x : V × List ℕ). (line_at r n x.1 >>= λ (y : List V × List ℕ). let z : List V × List ℕ = (x.0 ∷ y.0, y.1) in Ok z))
unfolding line_at
line_at-suc {V = V} r zero rest = refl
line_at-suc {V = V} r (suc n) rest =
    ap (λ (c : ℕ). r c rest >>= λ (x : V × List ℕ). (line_at r (suc n) x.1 >>= λ (y : List V × List ℕ). let z : List V × List ℕ = (x.0 ∷ y.0, y.1) in Ok z)) (more_end n)

pub line_more : {V : Type 0} (r : ℕ → List ℕ → Reading V) (vs : List V) (n : ℕ) (rest after : List ℕ) (v : V) → 0 < n → r (end_at n) rest ≡ Ok (v, after)
    → with_front vs (line_at r n rest) ≡ with_front (vs ++ v ∷ []) (line_at r (n - 1) after)
line_more {V = V} r vs n rest after v some e =
    ap (λ (m : ℕ). with_front vs (line_at r m rest)) (before n some)
    ∙ (ap (λ (q : Reading (List V)). with_front vs q) (line_at-suc r (n - 1) rest)
    ∙ (ap (λ (m : ℕ). with_front vs (r (end_at m) rest >>= λ (x : V × List ℕ). (line_at r (n - 1) x.1 >>= λ (y : List V × List ℕ). let z : List V × List ℕ = (x.0 ∷ y.0, y.1) in Ok z))) (sym (before n some))
    ∙ (ap (λ (q : Reading V). with_front vs (q >>= λ (x : V × List ℕ). (line_at r (n - 1) x.1 >>= λ (y : List V × List ℕ). let z : List V × List ℕ = (x.0 ∷ y.0, y.1) in Ok z))) e
    ∙ front_more vs v (line_at r (n - 1) after))))

pub line_fails : {V : Type 0} (r : ℕ → List ℕ → Reading V) (vs : List V) (n : ℕ) (rest left : List ℕ) → 0 < n → r (end_at n) rest ≡ Err left
    → with_front vs (line_at r n rest) ≡ Err left
line_fails {V = V} r vs n rest left some e =
    ap (λ (m : ℕ). with_front vs (line_at r m rest)) (before n some)
    ∙ (ap (λ (q : Reading (List V)). with_front vs q) (line_at-suc r (n - 1) rest)
    ∙ (ap (λ (m : ℕ). with_front vs (r (end_at m) rest >>= λ (x : V × List ℕ). (line_at r (n - 1) x.1 >>= λ (y : List V × List ℕ). let z : List V × List ℕ = (x.0 ∷ y.0, y.1) in Ok z))) (sym (before n some))
    ∙ (ap (λ (q : Reading V). with_front vs (q >>= λ (x : V × List ℕ). (line_at r (n - 1) x.1 >>= λ (y : List V × List ℕ). let z : List V × List ℕ = (x.0 ∷ y.0, y.1) in Ok z))) e
    ∙ front_fails vs left)))

pub line_done : {V : Type 0} (r : ℕ → List ℕ → Reading V) (vs : List V) (n : ℕ) (rest : List ℕ) → n ≤ 0
    → with_front vs (line_at r n rest) ≡ Ok (vs, rest)
unfolding line_at
line_done r vs zero rest none = front_all vs rest
line_done r vs (suc n) rest none = absurd (omega arith)

-- what is left of a part is what is left of the whole
pub left_whole : {X W : Type 0} (view : X → W × List ℕ) (result : Result X Stop) (left : Bor (List ℕ)) (whole : Reading W)
    → IsErrAnd result (λ e. e ≡ At left) → whole ≡ Err left.now → Gives view result whole
left_whole view (Ok x) left whole is at = absurd is
left_whole view (Err e) left whole is at = subst (λ (s : Stop). StopsAt s whole) (sym is) at

-- numbered values

numbered_step : {V : Type 0} (r : ℕ → List ℕ → Reading V) (vs : List V) (i k : ℕ) (rest : List ℕ) (q : Reading V) → r i rest ≡ q
    → with_front vs (numbered_at r i (suc k) rest)
    ≡ with_front vs (q >>= λ (x : V × List ℕ). (numbered_at r (suc i) k x.1 >>= λ (y : List V × List ℕ). let z : List V × List ℕ = (x.0 ∷ y.0, y.1) in Ok z))
unfolding numbered_at
numbered_step {V = V} r vs i k rest q e =
    ap (λ (q : Reading V). with_front vs (q >>= λ (x : V × List ℕ). (numbered_at r (suc i) k x.1 >>= λ (y : List V × List ℕ). let z : List V × List ℕ = (x.0 ∷ y.0, y.1) in Ok z))) e

count_down : (n i : ℕ) → i < n → n - i ≡ suc (n - (i + 1))
count_down n i h = omega arith

next_is : (i : ℕ) → suc i ≡ i + 1
next_is i = omega arith

pub numbered_more : {V : Type 0} (r : ℕ → List ℕ → Reading V) (vs : List V) (i n : ℕ) (rest after : List ℕ) (v : V) → i < n → r i rest ≡ Ok (v, after)
    → with_front vs (numbered_at r i (n - i) rest) ≡ with_front (vs ++ v ∷ []) (numbered_at r (i + 1) (n - (i + 1)) after)
numbered_more {V = V} r vs i n rest after v some e =
    ap (λ (k : ℕ). with_front vs (numbered_at r i k rest)) (count_down n i some)
    ∙ (numbered_step r vs i (n - (i + 1)) rest (Ok (v, after)) e
    ∙ (front_more vs v (numbered_at r (suc i) (n - (i + 1)) after)
    ∙ ap (λ (k : ℕ). with_front (vs ++ v ∷ []) (numbered_at r k (n - (i + 1)) after)) (next_is i)))

pub numbered_fails : {V : Type 0} (r : ℕ → List ℕ → Reading V) (vs : List V) (i n : ℕ) (rest left : List ℕ) → i < n → r i rest ≡ Err left
    → with_front vs (numbered_at r i (n - i) rest) ≡ Err left
numbered_fails {V = V} r vs i n rest left some e =
    ap (λ (k : ℕ). with_front vs (numbered_at r i k rest)) (count_down n i some)
    ∙ (numbered_step r vs i (n - (i + 1)) rest (Err left) e ∙ front_fails vs left)

none_left : (n i : ℕ) → n ≤ i → n - i ≡ 0
none_left n i h = omega arith

pub numbered_done : {V : Type 0} (r : ℕ → List ℕ → Reading V) (vs : List V) (i n : ℕ) (rest : List ℕ) → n ≤ i
    → with_front vs (numbered_at r i (n - i) rest) ≡ Ok (vs, rest)
unfolding numbered_at
numbered_done r vs i n rest none = ap (λ (k : ℕ). with_front vs (numbered_at r i k rest)) (none_left n i none) ∙ front_all vs rest

all_to_come : (n : ℕ) → n - 0 ≡ n
all_to_come n = omega arith

pub numbered_start : {V : Type 0} (r : ℕ → List ℕ → Reading V) (vs : List V) (n : ℕ) (text : List ℕ) → vs ≡ []
    → with_front vs (numbered_at r 0 (n - 0) text) ≡ numbered_at r 0 n text
numbered_start {V = V} r vs n text none =
    ap (λ (us : List V). with_front us (numbered_at r 0 (n - 0) text)) none ∙ (front_none (numbered_at r 0 (n - 0) text) ∙ ap (λ (k : ℕ). numbered_at r 0 k text) (all_to_come n))

-- the same, where both texts read alike
pub gives_same : {X W : Type 0} (view : X → W × List ℕ) (result : Result X Stop) (whole part : Reading W) → whole ≡ part → Gives view result part → Gives view result whole
gives_same view result whole part e h = subst (λ (q : Reading _). Gives view result q) (sym e) h
