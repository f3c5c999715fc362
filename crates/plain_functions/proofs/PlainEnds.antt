-- Plain functions by their places: what a loop over the instructions knows so far, and that a closed function whose
-- instructions are all plain where they stand is a plain function.
use Rattle.std.proofs.Common.{◌≡◌, ◌⊎◌, inl, inr, ⊎_elim, ℕ, zero, suc, ◌+◌, ◌-◌, ◌<◌, Bool, true, false, IsTrue, List, [], ◌∷◌, ◌++◌, length, get_or, Some, slice_get, refl, sym, ap, subst, arith}
use Rattle.std.specs.List.{AllByRecursion}
use Rattle.std.proofs.lemmas.Bool.{cases_eq}
use Rattle.std.proofs.lemmas.Option.{slice_get_within, slice_get-get_or}
use Rattle.insn_ops.specs.declared.op.Op.{Op}
use Rattle.insn_ops.specs.declared.op.Op.TheVariants.{Mov, Add, Sub, Ret}
use Rattle.insn_table.specs.Closed.{IsClosed, IsLeaving}
use Rattle.plain_functions.specs.Plain.{IsMoveOp, IsPlain, IsPlainMove, IsReturn}
use Rattle.insn_table.specs.declared.insn.Insn.{Insn}
use Rattle.plain_functions.specs.Plainness.{IsFirstUnplain, IsPlainAt}

-- the first n instructions are plain where they stand, and the flag tells whether one of them returns
pub record AreSoFar (insns : List Insn) (n : ℕ) (returned : Bool) : Type 0 where
  pub each : (k : ℕ) → k < n → IsPlainAt insns k
  pub some : returned ≡ true → (k : ℕ) × (i : Insn) × (k < n) × (slice_get insns k ≡ Some i) × IsReturn i
  pub none : returned ≡ false → (k : ℕ) (i : Insn) → k < n → slice_get insns k ≡ Some i → IsReturn i → ⊥

pub none-so-far : (insns : List Insn) → AreSoFar insns 0 false
none-so-far insns = record { each = λ k h. absurd (omega arith); some = λ e. (let f : false ≡ true = e in cc); none = λ e k i h. absurd (omega arith) }

-- one instruction more, behind no return
pub more-so-far : (insns : List Insn) (n : ℕ) (d : Insn) (after : Bool) → n < length insns → AreSoFar insns n false
    → IsPlainMove (get_or insns n d) ⊎ IsReturn (get_or insns n d)
    → ((IsTrue after → IsReturn (get_or insns n d)) × (IsReturn (get_or insns n d) → IsTrue after)) → AreSoFar insns (n + 1) after
more-so-far insns n d after low so plain returns = record {
  each = λ k h. ⊎_elim {C = IsPlainAt insns k} (λ e. subst (IsPlainAt insns) (sym e) here) (λ ne. so.each k (omega arith)) (cases_eq k n);
  some = λ e. (n, get_or insns n d, omega arith, there, returns.0 e);
  none = λ e k i h is ret. ⊎_elim {C = ⊥}
      (λ at. let same : get_or insns n d ≡ i = (let a : slice_get insns n ≡ Some i = subst (λ j. slice_get insns j ≡ Some i) at is in let b = there in cc) in
      let t : after ≡ true = returns.1 (subst IsReturn (sym same) ret) in cc)
      (λ ne. so.none refl k i (omega arith) is ret)
      (cases_eq k n);
}
  where
    there : slice_get insns n ≡ Some (get_or insns n d)
    there = slice_get-get_or insns n d low

    here : IsPlainAt insns n
    here = record { insn = get_or insns n d; there = there; plain = plain; unreturned = λ k i h is ret. so.none refl k i h is ret }

-- where a return was read, the next instruction is not plain where it stands
pub behind-return : (insns : List Insn) (n : ℕ) → AreSoFar insns n true → IsPlainAt insns n → ⊥
behind-return insns n so at = let r = so.some refl in at.unreturned r.0 r.1 r.2 r.3 r.4

move_stays : (op : Op) → IsMoveOp op → IsLeaving op → ⊥
move_stays Mov h leaves = absurd leaves
move_stays Add h leaves = absurd leaves
move_stays Sub h leaves = absurd leaves
move_stays _ h leaves = absurd h

-- moves and a return at the end, by their places
parted : (insns : List Insn) → 0 < length insns → ((k : ℕ) (i : Insn) → k + 1 < length insns → slice_get insns k ≡ Some i → IsPlainMove i)
    → ((k : ℕ) (i : Insn) → k + 1 ≡ length insns → slice_get insns k ≡ Some i → IsReturn i) → IsPlain insns
parted [] some moves returns = absurd (omega arith)
parted (x ∷ []) some moves returns = record { moves = []; last = x; whole = refl; each = tt; returns = returns 0 x (omega arith) refl }
parted (x ∷ y ∷ ys) some moves returns =
    let rest = parted (y ∷ ys) (omega arith) (λ k i h is. moves (suc k) i (omega arith) is) (λ k i h is. returns (suc k) i (omega arith) is) in
    record {
      moves = x ∷ rest.moves;
      last = rest.last;
      whole = ap (λ l. x ∷ l) rest.whole;
      each = (moves 0 x (omega arith) refl, rest.each);
      returns = rest.returns;
    }

-- a closed function whose instructions are all plain where they stand is plain
pub closed-plain : (insns : List Insn) → IsClosed insns → ((k : ℕ) → k < length insns → IsPlainAt insns k) → IsPlain insns
closed-plain insns closed each =
    let at = each (length insns - 1) (omega (arith, closed.some)) in
    let last_returns : IsReturn at.insn =
    ⊎_elim {C = IsReturn at.insn} (λ move. absurd (move_stays at.insn.op move.op (closed.last at.insn at.there))) (λ ret. ret) at.plain in
    parted insns closed.some
    (λ k i h is.
    let here = each k (omega arith) in
    let same : here.insn ≡ i = (let a = here.there in cc) in
    ⊎_elim {C = IsPlainMove i} (λ move. subst IsPlainMove same move)
    (λ ret. absurd (at.unreturned k i (omega arith) is (subst IsReturn same ret))) here.plain)
    (λ k i h is.
    let e : k ≡ length insns - 1 = omega arith in
    let same : at.insn ≡ i = (let a = at.there in let b : slice_get insns (length insns - 1) ≡ Some i = subst (λ j. slice_get insns j ≡ Some i) e is in cc) in
    subst IsReturn same last_returns)

op_differs : (op : Op) → IsMoveOp op → op ≡ Ret → ⊥
op_differs Mov h e = cc
op_differs Add h e = cc
op_differs Sub h e = cc
op_differs _ h e = absurd h

-- each instruction of moves and a return is plain where it stands
plain-places : (moves : List Insn) (last : Insn) → AllByRecursion IsPlainMove moves → IsReturn last → (k : ℕ) → k < length (moves ++ last ∷ []) → IsPlainAt (moves ++ last ∷ []) k
plain-places [] last each returns zero h = record { insn = last; there = refl; plain = inr returns; unreturned = λ k i lt. absurd (omega arith) }
plain-places [] last each returns (suc k) h = absurd (omega arith)
plain-places (x ∷ xs) last each returns zero h = record { insn = x; there = refl; plain = inl each.0; unreturned = λ k i lt. absurd (omega arith) }
plain-places (x ∷ xs) last each returns (suc k) h =
    let rest = plain-places xs last each.1 returns k (omega arith) in
    record { insn = rest.insn; there = rest.there; plain = rest.plain; unreturned = behind rest }
  where
    behind : IsPlainAt (xs ++ last ∷ []) k → (j : ℕ) (i : Insn) → j < suc k → slice_get (x ∷ (xs ++ last ∷ [])) j ≡ Some i → IsReturn i → ⊥
    behind rest zero i lt is ret = let same : x ≡ i = cc in op_differs x.op each.0.op (let r = subst IsReturn (sym same) ret in r.op)
    behind rest (suc j) i lt is ret = rest.unreturned j i (omega arith) is ret

-- a plain function has no first instruction that is not plain
pub plain-unplain : (insns : List Insn) (line : ℕ) → IsPlain insns → IsFirstUnplain insns line → ⊥
plain-unplain insns line p first =
    let at : IsPlainAt (p.moves ++ p.last ∷ []) first.place =
    plain-places p.moves p.last p.each p.returns first.place (slice_get_within (p.moves ++ p.last ∷ []) first.place first.insn (subst (λ l. slice_get l first.place ≡ Some first.insn) p.whole first.there)) in
    first.unplain (subst (λ l. IsPlainAt l first.place) (sym p.whole) at)
