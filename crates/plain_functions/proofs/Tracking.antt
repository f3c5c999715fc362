-- Sums that track the registers, instruction by instruction.
use Rattle.std.proofs.Common.{◌≡◌, ⊎_elim, ℕ, zero, suc, ◌+◌, ◌%◌, ◌^◌, ◌<◌, List, [], ◌∷◌, length, take, set, get_or, Some, refl, sym, ◌∙◌, ap, subst, arith, slice_get, slice_index, add-one}
use Rattle.std.proofs.Math.ListN.{length-set}
use Rattle.std.proofs.Math.Nat.{mod-eq_of_lt}
use Rattle.std.proofs.lemmas.Bool.{cases_eq}
use Rattle.std.proofs.lemmas.List.{get_or-set_same, get_or-set_other}
use Rattle.std.proofs.lemmas.Option.{slice_get_within, slice_get-get_or, get_or_from_slice_get}
use Rattle.insn_table.specs.declared.insn.Insn.{Insn}
use Rattle.insn_table.specs.declared.insn.Operand.{Operand}
use Rattle.insn_table.specs.declared.insn.Operand.TheVariants.{Reg, Nothing}
use Rattle.machine.specs.Machine.{AreRegs}
use Rattle.plain_functions.specs.Straight.{plain_result, regs_after, value_at}
use Rattle.plain_functions.specs.Straight.{regs_through}
use Rattle.plain_functions.specs.declared.sums.Sum.{Sum}
use Rattle.plain_functions.specs.Sums.{Tracks, sum_value}

-- each register is its own entry register
pub entry-tracks : (sums : List Sum) → length sums ≡ 16
    → ((regs : List ℕ) → length regs ≡ 16 → (k : ℕ) (s : Sum) → k < 16 → slice_get sums k ≡ Some s → sum_value s regs ≡ slice_index regs k % 2 ^ 64)
    → (regs : List ℕ) → AreRegs regs → Tracks sums regs regs
entry-tracks sums sixteen each regs are = record {
  sixteen = are.sixteen;
  holds = λ k s h.
      let low = slice_get_within sums k s h in
      each regs are.sixteen k s (omega arith) h ∙ mod-eq_of_lt (are.below k);
}

same_item : {A : Type 0} (xs : List A) (n : ℕ) (x y : A) → n < length xs → slice_get (set xs n x) n ≡ Some y → y ≡ x
same_item xs n x y low h =
    sym (get_or_from_slice_get (set xs n x) n y x h) ∙ get_or-set_same xs n x x low

other_item : {A : Type 0} (xs : List A) (n k : ℕ) (x y : A) → (k ≡ n → ⊥) → slice_get (set xs n x) k ≡ Some y → slice_get xs k ≡ Some y
other_item {A} xs n k x y ne h =
    let low : k < length xs = subst (λ m. k < m) (length-set xs n x) (slice_get_within (set xs n x) k y h) in
    slice_get-get_or xs k y low ∙ ap Some (sym (get_or-set_other xs n k x y ne) ∙ get_or_from_slice_get (set xs n x) k y y h)

pub set-tracks : (sums : List Sum) (start regs : List ℕ) (n : ℕ) (new : Sum) (v : ℕ) → length sums ≡ 16 → n < 16 → Tracks sums start regs
    → sum_value new start ≡ v → Tracks (set sums n new) start (set regs n v)
set-tracks sums start regs n new v sixteen low t is = record {
  sixteen = length-set regs n v ∙ t.sixteen;
  holds = λ k s h.
      ⊎_elim {C = sum_value s start ≡ slice_index (set regs n v) k}
      (λ e. let same = same_item sums n new s (omega arith) (subst (λ j. slice_get (set sums n new) j ≡ Some s) e h) in
      ap (λ r. sum_value r start) same ∙ is ∙ sym (rw e (get_or-set_same regs n v 0 (let l = t.sixteen in omega arith))))
      (λ ne. t.holds k s (other_item sums n k new s ne h) ∙ sym (get_or-set_other regs n k v 0 ne))
      (cases_eq k n);
}

-- what an instruction with these operands does to the registers
pub regs_after-move : (i : Insn) (source target : Operand) (n w : ℕ) (regs : List ℕ) → i.args ≡ source ∷ target ∷ Nothing ∷ Nothing ∷ [] → target ≡ Reg n w
    → regs_after i regs ≡ set regs n (plain_result i.op (get_or regs n 0) (value_at regs source))
regs_after-move i source target n w regs args is = rw (args, is) refl

-- one more move behind others
pub regs_through-more : (xs : List Insn) (i : ℕ) (d : Insn) (regs : List ℕ) → i < length xs
    → regs_through (take (i + 1) xs) regs ≡ regs_after (get_or xs i d) (regs_through (take i xs) regs)
regs_through-more [] i d regs low = absurd (omega arith)
regs_through-more (x ∷ xs) zero d regs low = refl
regs_through-more (x ∷ xs) (suc i) d regs low = rw add-one (let h = rw add-one at (regs_through-more xs i d (regs_after x regs) (omega arith)) in h)

pub tracks-more : (sums : List Sum) (xs : List Insn) (i : ℕ) (d : Insn) (start : List ℕ) → i < length xs
    → Tracks sums start (regs_after (get_or xs i d) (regs_through (take i xs) start)) → Tracks sums start (regs_through (take (i + 1) xs) start)
tracks-more sums xs i d start low h = let P : List ℕ → Type 0 = Tracks sums start in subst P (sym (regs_through-more xs i d start low)) h
