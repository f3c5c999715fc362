-- One run answers another, by moves that both make, over states of any kind. No product occurs here.
use Rattle.std.proofs.Common.{◌≡◌, ℕ, zero, suc, ◌+◌, ◌-◌, ◌*◌, ◌<◌, ◌≤◌, refl, sym, ◌∙◌, ap, subst, nat_lt, Bool, true, false, arith}
use Rattle.std.proofs.Math.Nat.{add-mul}
use borrow.Author.Tests.{ltb-true, ltb-false}
use Rattle.runs.specs.Run.{IsOver, Run, Step, later, run_of}
use Rattle.runs.specs.declared.ends.RunEnd.{RunEnd}
use Rattle.runs.specs.declared.ends.RunEnd.TheVariants.{Returned, Faulted, Unset, Running}
use Rattle.runs.proofs.Runs.{faulted_stays, returned_stays, run-from, same_end_of_both, unset_stays}

-- the run returns within n steps, with the same end as x
pub record ReturnsAs {S : Type 0} (g : S → Step S) (same : S → S → Type 0) (b : S) (n : ℕ) (x : S) : Type 0 where
  pub end : S
  pub number : ℕ
  pub run : run_of g b n ≡ (end, Returned number)
  pub is_same : same x end

-- the run faults within n steps
pub record FaultsBy {S : Type 0} (g : S → Step S) (b : S) (n : ℕ) : Type 0 where
  pub end : S
  pub number : ℕ
  pub run : run_of g b n ≡ (end, Faulted number)

-- what the second run owes within n steps, by where the first has come to
abbrev pub Answers : {S : Type 0} → (S → Step S) → (S → S → Type 0) → S → ℕ → Run S → Type 0
Answers g same b n (x, Returned i) = ReturnsAs g same b n x
Answers g same b n (x, Faulted i) = FaultsBy g b n
Answers g same b n (x, Unset i) = ⊥
Answers g same b n (x, Running) = Unit {0}

-- what is owed within fewer steps is owed within more
answers-more : {S : Type 0} (g : S → Step S) (same : S → S → Type 0) (b : S) (n m : ℕ) (x : S) (e : RunEnd) → n ≤ m
    → Answers g same b n (x, e) → Answers g same b m (x, e)
answers-more g same b n m x (Returned i) le h =
    record { end = h.end; number = h.number; run = returned_stays g b h.end h.number n m le h.run; is_same = h.is_same }
answers-more g same b n m x (Faulted i) le h =
    record { end = h.end; number = h.number; run = faulted_stays g b h.end h.number n m le h.run }
answers-more g same b n m x (Unset i) le h = h
answers-more g same b n m x Running le h = tt

-- what is owed from where the second run has come to
answers-from : {S : Type 0} (g : S → Step S) (same : S → S → Type 0) (b d : S) (r n : ℕ) (x : S) (e : RunEnd) → run_of g b r ≡ (d, Running)
    → Answers g same d n (x, e) → Answers g same b (r + n) (x, e)
answers-from g same b d r n x (Returned i) there h =
    record { end = h.end; number = r + h.number; run = run-from g b d r n there ∙ ap (later r) h.run; is_same = h.is_same }
answers-from g same b d r n x (Faulted i) there h =
    record { end = h.end; number = r + h.number; run = run-from g b d r n there ∙ ap (later r) h.run }
answers-from g same b d r n x (Unset i) there h = h
answers-from g same b d r n x Running there h = tt

-- the number of the first run's end does not matter
answers-later : {S : Type 0} (g : S → Step S) (same : S → S → Type 0) (b : S) (n l : ℕ) (x : S) (e : RunEnd)
    → Answers g same b n (x, e) → Answers g same b n (later l (x, e))
answers-later g same b n l x (Returned i) h = h
answers-later g same b n l x (Faulted i) h = h
answers-later g same b n l x (Unset i) h = h
answers-later g same b n l x Running h = tt

-- A run that is over at one number of steps is the same at each other, or still goes on, and then nothing is owed.
answers-over : {S : Type 0} (f g : S → Step S) (same : S → S → Type 0) (a b x t : S) (n l k : ℕ) (e d : RunEnd) → IsOver e
    → run_of f a l ≡ (x, e) → Answers g same b n (x, e) → run_of f a k ≡ (t, d) → Answers g same b n (t, d)
answers-over f g same a b x t n l k e (Returned i) over is h there =
    let both = same_end_of_both f a x t e (Returned i) l k over tt is there in
    subst (λ (r : Run _). Answers g same b n r) (λ j. (both.0 j, both.1 j)) h
answers-over f g same a b x t n l k e (Faulted i) over is h there =
    let both = same_end_of_both f a x t e (Faulted i) l k over tt is there in
    subst (λ (r : Run _). Answers g same b n r) (λ j. (both.0 j, both.1 j)) h
answers-over f g same a b x t n l k e (Unset i) over is h there =
    let both = same_end_of_both f a x t e (Unset i) l k over tt is there in
    subst (λ (r : Run _). Answers g same b n r) (λ j. (both.0 j, both.1 j)) h
answers-over f g same a b x t n l k e Running over is h there = tt

-- A run that still goes on after l steps goes on after fewer, and then nothing is owed.
answers-running : {S : Type 0} (f g : S → Step S) (same : S → S → Type 0) (a b c t : S) (n l k : ℕ) (d : RunEnd) → k ≤ l
    → run_of f a l ≡ (c, Running) → run_of f a k ≡ (t, d) → Answers g same b n (t, d)
answers-running f g same a b c t n l k (Returned i) le is there =
    absurd (let on : Running ≡ Returned i = ap (λ (r : Run _). r.1) (sym is ∙ returned_stays f a t i k l le there) in cc)
answers-running f g same a b c t n l k (Faulted i) le is there =
    absurd (let on : Running ≡ Faulted i = ap (λ (r : Run _). r.1) (sym is ∙ faulted_stays f a t i k l le there) in cc)
answers-running f g same a b c t n l k (Unset i) le is there =
    absurd (let on : Running ≡ Unset i = ap (λ (r : Run _). r.1) (sym is ∙ unset_stays f a t i k l le there) in cc)
answers-running f g same a b c t n l k Running le is there = tt

-- What both runs do from two states that are linked at a node: both go on for l and r steps to states that are linked at
-- another node, whose rank is less where l is 0; or both return; or both fault.
pub data Move {S : Type 0} (f g : S → Step S) (same : S → S → Type 0) (linked : ℕ → S → S → Type 0) (rank : ℕ → ℕ) (most node : ℕ) (a b : S) : Type 0 where
  Along : (l r next : ℕ) (c d : S) → run_of f a l ≡ (c, Running) → run_of g b r ≡ (d, Running) → r ≤ most → linked next c d
      → (l ≡ 0 → rank next < rank node) → Move f g same linked rank most node a b
  Home : (l r i j : ℕ) (x y : S) → run_of f a l ≡ (x, Returned i) → run_of g b r ≡ (y, Returned j) → r ≤ most → same x y
      → Move f g same linked rank most node a b
  Fall : (l r i j : ℕ) (x y : S) → run_of f a l ≡ (x, Faulted i) → run_of g b r ≡ (y, Faulted j) → r ≤ most
      → Move f g same linked rank most node a b

-- behind a move of l steps, fewer moves are left
measure-falls : (n fuel k l m here next : ℕ) → k * n + here < suc fuel + n → k ≡ l + m → next < n → (l ≡ 0 → next < here)
    → m * n + next < fuel + n
measure-falls n fuel k zero m here next le is low falls =
    let same : k * n ≡ m * n = ap (λ (x : ℕ). x * n) (is ∙ omega arith) in
    let less : next < here = falls refl in
    omega arith
measure-falls n fuel k (suc l) m here next le is low falls =
    let parts : k * n ≡ (1 + l + m) * n = ap (λ (x : ℕ). x * n) (is ∙ omega arith) in
    let sum : (1 + l + m) * n ≡ (1 + l) * n + m * n = add-mul (1 + l) m n in
    let first : (1 + l) * n ≡ 1 * n + l * n = add-mul 1 l n in
    omega arith

-- a run of l steps or more
longer : {S : Type 0} (f g : S → Step S) (same : S → S → Type 0) (a b c d : S) (l r m k n most : ℕ) → k ≡ l + m → r ≤ most
    → run_of f a l ≡ (c, Running) → run_of g b r ≡ (d, Running) → Answers g same d n (run_of f c m) → Answers g same b (most + n) (run_of f a k)
longer f g same a b c d l r m k n most is le first second h =
    let from = answers-from g same b d r n (run_of f c m).0 (run_of f c m).1 second h in
    let more = answers-more g same b (r + n) (most + n) (run_of f c m).0 (run_of f c m).1 (omega arith) from in
    let shifted = answers-later g same b (most + n) l (run_of f c m).0 (run_of f c m).1 more in
    subst (λ (x : Run _). Answers g same b (most + n) x) (sym (run-from f a c l m first) ∙ ap (run_of f a) (sym is)) shifted

module _ {S : Type 0} (f g : S → Step S) (same : S → S → Type 0) (linked : ℕ → S → S → Type 0) (rank : ℕ → ℕ) (n most : ℕ)
    (low : (q : ℕ) → rank q < n) where
  along : (fuel node k l r next : ℕ) (a b c d : S) (less : Bool) → nat_lt k l ≡ less → run_of f a l ≡ (c, Running) → run_of g b r ≡ (d, Running)
      → r ≤ most → linked next c d → (l ≡ 0 → rank next < rank node) → k * n + rank node < suc fuel + n
      → ((q m : ℕ) (c d : S) → linked q c d → m * n + rank q < fuel + n → Answers g same d (fuel * most) (run_of f c m))
      → Answers g same b (most + fuel * most) (run_of f a k)
  along fuel node k l r next a b c d true less first second le into falls enough more =
      let fewer : k < l = ltb-true k l less in
      answers-running f g same a b c (run_of f a k).0 (most + fuel * most) l k (run_of f a k).1 (omega arith) first refl
  along fuel node k l r next a b c d false less first second le into falls enough more =
      let enough_steps : l ≤ k = ltb-false k l less in
      let is : k ≡ l + (k - l) = omega arith in
      longer f g same a b c d l r (k - l) k (fuel * most) most is le first second
      (more next (k - l) c d into (measure-falls n fuel k l (k - l) (rank node) (rank next) enough is (low next) falls))

  moved : (fuel node k : ℕ) (a b : S) → Move f g same linked rank most node a b → k * n + rank node < suc fuel + n
      → ((q m : ℕ) (c d : S) → linked q c d → m * n + rank q < fuel + n → Answers g same d (fuel * most) (run_of f c m))
      → Answers g same b (most + fuel * most) (run_of f a k)
  moved fuel node k a b (Along l r next c d first second le into falls) enough more =
      along fuel node k l r next a b c d (nat_lt k l) refl first second le into falls enough more
  moved fuel node k a b (Home l r i j x y first second le is) enough more =
      answers-over f g same a b x (run_of f a k).0 (most + fuel * most) l k (Returned i) (run_of f a k).1 tt first
      (record { end = y; number = j; run = returned_stays g b y j r (most + fuel * most) (omega arith) second; is_same = is }) refl
  moved fuel node k a b (Fall l r i j x y first second le) enough more =
      answers-over f g same a b x (run_of f a k).0 (most + fuel * most) l k (Faulted i) (run_of f a k).1 tt first
      (record { end = y; number = j; run = faulted_stays g b y j r (most + fuel * most) (omega arith) second }) refl

  module _ (moves : (q : ℕ) (a b : S) → linked q a b → Move f g same linked rank most q a b) where
    -- with enough moves left for k steps of the first run
    simulated : (fuel node k : ℕ) (a b : S) → linked node a b → k * n + rank node < fuel + n → Answers g same b (fuel * most) (run_of f a k)
    simulated zero node zero a b h enough = tt
    simulated zero node (suc k) a b h enough = absurd (let first : (1 + k) * n ≡ 1 * n + k * n = add-mul 1 k n in omega arith)
    simulated (suc fuel) node k a b h enough =
        let within : most + fuel * most ≡ suc fuel * most = (let first : (1 + fuel) * most ≡ 1 * most + fuel * most = add-mul 1 fuel most in omega arith) in
        subst (λ (x : ℕ). Answers g same b x (run_of f a k)) within
        (moved fuel node k a b (moves node a b h) enough (λ q m c d. simulated fuel q m c d))

    -- k steps of the first run are answered within k * n * most
    pub simulation : (node k : ℕ) (a b : S) → linked node a b → Answers g same b (k * n * most) (run_of f a k)
    simulation node k a b h = let low_rank : rank node < n = low node in simulated (k * n) node k a b h (omega arith)
