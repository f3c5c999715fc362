-- What reading items one after another answers: all that was read, where no fault is, or else the first
-- fault. F says what is wrong with an item behind those before it, I what is read of it there, and P
-- which faults precede which.
use Rattle.std.proofs.Common.{◌≡◌, ℕ, ◌<◌, ◌≤◌, List, [], ◌∷◌, ◌++◌, Result, Ok, Err, ◌⊎◌, inl, inr, refl, ap, subst, append-nil, append_assoc, arith}
use Rattle.outcomes.specs.Firsts.{◌>>=◌, all_of, HasFault, IsFirst, Precedes}

-- a fault of the first item
pub fault-here : {X E : Type 0} (F : List X → X → E → Type 0) (prefix : List X) (i : X) (is : List X) (e : E) → F prefix i e → HasFault F prefix (i ∷ is) e
fault-here F prefix i is e wrong = record { before = []; item = i; after = is; there = refl; wrong = rw append-nil wrong }

-- a fault of an item behind the first
pub fault-later : {X E : Type 0} (F : List X → X → E → Type 0) (prefix : List X) (i : X) (is : List X) (e : E) → HasFault F (prefix ++ i ∷ []) is e → HasFault F prefix (i ∷ is) e
fault-later F prefix i is e h =
    record { before = i ∷ h.before; item = h.item; after = h.after; there = ap (λ rest. i ∷ rest) h.there; wrong = rw append_assoc at h.wrong }

fault_split : {X E : Type 0} (F : List X → X → E → Type 0) (prefix : List X) (i : X) (is before : List X) (item : X) (after : List X) (e : E)
    → i ∷ is ≡ before ++ item ∷ after → F (prefix ++ before) item e → F prefix i e ⊎ HasFault F (prefix ++ i ∷ []) is e
fault_split F prefix i is [] item after e there wrong =
    let same : item ≡ i = cc in inl (subst (λ x. F prefix x e) same (rw append-nil at wrong))
fault_split F prefix i is (b ∷ before) item after e there wrong =
    let same : b ≡ i = cc in
    let rest : is ≡ before ++ item ∷ after = cc in
    let moved = subst (λ x. F (prefix ++ x ∷ before) item e) same wrong in
    inr (record { before = before; item = item; after = after; there = rest; wrong = rw append_assoc moved })

-- a fault is one of the first item or one of an item behind it
pub fault-cases : {X E : Type 0} (F : List X → X → E → Type 0) (prefix : List X) (i : X) (is : List X) (e : E) → HasFault F prefix (i ∷ is) e → F prefix i e ⊎ HasFault F (prefix ++ i ∷ []) is e
fault-cases F prefix i is e h = fault_split F prefix i is h.before h.item h.after e h.there h.wrong

no_split : {X : Type 0} (before : List X) (item : X) (after : List X) → [] ≡ before ++ item ∷ after → ⊥
no_split [] item after there = cc
no_split (b ∷ before) item after there = cc

-- without items there is no fault
pub fault-none : {X E : Type 0} (F : List X → X → E → Type 0) (prefix : List X) (e : E) → HasFault F prefix [] e → ⊥
fault-none F prefix e h = no_split h.before h.item h.after h.there

-- the first item was read rightly: what was found, and no fault, or a fault that no other fault of it goes before
abbrev pub IsItem : {X V E : Type 0} → (List X → X → E → Type 0) → (E → E → Type 0) → (List X → X → List V → Type 0) → List X → X → Result (List V) E → Type 0
IsItem F P I prefix i (Ok found) = I prefix i found × ((e : _) → F prefix i e → ⊥)
IsItem F P I prefix i (Err e) = F prefix i e × ((other : _) → F prefix i other → P e other)

-- all that was read, item by item
abbrev pub AreAll : {X V : Type 0} → (List X → X → List V → Type 0) → List X → List X → List V → Type 0
AreAll I prefix [] all = all ≡ []
AreAll {V = V} I prefix (i ∷ is) all = (found : List V) × (rest : List V) × I prefix i found × AreAll I (prefix ++ i ∷ []) is rest × (all ≡ found ++ rest)

-- what was answered is right
abbrev pub IsOutcome : {X V E : Type 0} → (List X → X → E → Type 0) → (E → E → Type 0) → (List X → X → List V → Type 0) → List X → List X → Result (List V) E → Type 0
IsOutcome F P I prefix is (Ok all) = AreAll I prefix is all × ((e : _) → HasFault F prefix is e → ⊥)
IsOutcome F P I prefix is (Err e) = IsFirst F P prefix is e

-- the faults of an item go before those behind it
abbrev pub ComesFirst : {X E : Type 0} → (List X → X → E → Type 0) → (E → E → Type 0) → List X → X → List X → Type 0
ComesFirst {E = E} F P prefix i is = (e other : E) → F prefix i e → HasFault F (prefix ++ i ∷ []) is other → P e other

-- one item more, before those that were read rightly
pub outcome-then : {X V E : Type 0} (F : List X → X → E → Type 0) (P : E → E → Type 0) (I : List X → X → List V → Type 0) (prefix : List X) (i : X) (is : List X) (r s : Result (List V) E)
    → ComesFirst F P prefix i is → IsItem F P I prefix i r → IsOutcome F P I (prefix ++ i ∷ []) is s
    → IsOutcome F P I prefix (i ∷ is) (r >>= λ found. (s >>= λ rest. Ok (found ++ rest)))
outcome-then F P I prefix i is (Ok found) (Ok rest) first item out =
    ((found, rest, item.0, out.0, refl), λ e h. elim (fault-cases F prefix i is e h) [ inl here ↦ item.1 e here | inr later ↦ out.1 e later ])
outcome-then F P I prefix i is (Ok found) (Err e) first item out =
    record {
      has = fault-later F prefix i is e out.has;
      least = λ other h. elim (fault-cases F prefix i is other h) [ inl here ↦ absurd (item.1 other here) | inr later ↦ out.least other later ];
    }
outcome-then F P I prefix i is (Err e) s first item out =
    record {
      has = fault-here F prefix i is e item.0;
      least = λ other h. elim (fault-cases F prefix i is other h) [ inl here ↦ item.1 other here | inr later ↦ first e other item.0 later ];
    }

-- where each item is read rightly, all are: Order is what the items keep and by which faults come in order
pub all-outcome : {X V E : Type 0} (F : List X → X → E → Type 0) (P : E → E → Type 0) (I : List X → X → List V → Type 0) (Order : List X → List X → Type 0)
    (r : List X → X → Result (List V) E)
    → ((prefix : List X) (i : X) → IsItem F P I prefix i (r prefix i))
    → ((prefix : List X) (i : X) (is : List X) → Order prefix (i ∷ is) → ComesFirst F P prefix i is)
    → ((prefix : List X) (i : X) (is : List X) → Order prefix (i ∷ is) → Order (prefix ++ i ∷ []) is)
    → (prefix is : List X) → Order prefix is → IsOutcome F P I prefix is (all_of r prefix is)
unfolding all_of
all-outcome F P I Order r item first next prefix [] order = (refl, λ e h. fault-none F prefix e h)
all-outcome F P I Order r item first next prefix (i ∷ is) order =
    outcome-then F P I prefix i is (r prefix i) (all_of r (prefix ++ i ∷ []) is) (first prefix i is order) (item prefix i)
    (all-outcome F P I Order r item first next (prefix ++ i ∷ []) is (next prefix i is order))

-- there is one first fault, where two faults that precede each other are one
pub first-once : {X E : Type 0} (F : List X → X → E → Type 0) (P : E → E → Type 0) (prefix items : List X)
    → ((a b : E) → HasFault F prefix items a → HasFault F prefix items b → P a b → P b a → a ≡ b)
    → (a b : E) → IsFirst F P prefix items a → IsFirst F P prefix items b → a ≡ b
first-once F P prefix items same a b one two = same a b one.has two.has (one.least b two.has) (two.least a one.has)

-- two faults that precede each other are of one place and one rank
pub precedes-same : {E : Type 0} (place rank : E → ℕ) (a b : E) → Precedes place rank a b → Precedes place rank b a → (place a ≡ place b) × (rank a ≡ rank b)
precedes-same place rank a b (inl less) (inl more) = absurd (omega arith)
precedes-same place rank a b (inl less) (inr same) = absurd (omega (arith, same.0))
precedes-same place rank a b (inr same) (inl more) = absurd (omega (arith, same.0))
precedes-same place rank a b (inr one) (inr two) = (one.0, omega (arith, one.1, two.1))

-- there is one first fault, where faults of one place and one rank are one
pub first-alone : {X E : Type 0} (F : List X → X → E → Type 0) (place rank : E → ℕ) (prefix items : List X)
    → ((a b : E) → HasFault F prefix items a → HasFault F prefix items b → place a ≡ place b → rank a ≡ rank b → a ≡ b)
    → (a b : E) → IsFirst F (Precedes place rank) prefix items a → IsFirst F (Precedes place rank) prefix items b → a ≡ b
first-alone F place rank prefix items same a b one two =
    first-once F (Precedes place rank) prefix items (λ x y p q to fro. let alike = precedes-same place rank x y to fro in same x y p q alike.0 alike.1) a b one two

-- faults go in the order of their items, where each is at the place of its item and the items behind are at greater places
pub placed-first : {X E : Type 0} (F : List X → X → E → Type 0) (place rank : E → ℕ) (at : X → ℕ) → ((before : List X) (i : X) (e : E) → F before i e → place e ≡ at i)
    → (prefix : List X) (i : X) (is : List X) → ((before : List X) (item : X) (after : List X) → is ≡ before ++ item ∷ after → at i < at item)
    → ComesFirst F (Precedes place rank) prefix i is
placed-first F place rank at placed prefix i is above e other here later =
    let low = placed prefix i e here in
    let high = placed ((prefix ++ i ∷ []) ++ later.before) later.item other later.wrong in
    let less = above later.before later.item later.after later.there in
    inl (omega (arith, low, high, less))
