-- A plain function is closed: its moves and its return are instructions of the table, and go nowhere else.
use Rattle.std.proofs.Common.{◌≡◌, ℕ, ◌+◌, ◌-◌, ◌^◌, ◌<◌, inl, inr, Bool, true, false, ◌||◌, List, [], ◌∷◌, ◌++◌, length, Some, Ok, codes, refl, sym, ap, ◌∙◌, subst, length-append, arith}
use Rattle.std.specs.List.{AllByRecursion}
use Rattle.std.proofs.lemmas.Bool.{le-leb}
use Rattle.insn_ops.specs.declared.op.Op.{Op}
use Rattle.insn_ops.specs.declared.op.Op.TheVariants.{Mov, Add, Sub, Ret}
use Rattle.insn_table.specs.declared.insn.Operand.{Operand}
use Rattle.insn_table.specs.declared.insn.Operand.TheVariants.{Reg, Imm, Nothing}
use Rattle.insn_table.specs.declared.insn.Insn.{Insn}
use Rattle.insn_spellings.specs.Rows.{general, named}
use Rattle.insn_spellings.specs.Spellings.{table_rows}
use Rattle.insn_spellings.specs.LegacyRows.{add_to_cltq, cmova_to_cmovnc, cmovne_to_cmovz, cmp_to_lea, mov_to_or, packss_to_pop, por_to_sar, set_rows, shl_to_test, xor_rows}
use Rattle.insn_spellings.specs.VexRows.{vand_to_vpbroadcast, vpcmp_to_vpmul, vpor_to_vzeroupper}
use Rattle.insn_table.specs.Classes.{is_immediate}
use Rattle.insn_table.specs.Forms.{fits_of}
use Rattle.plain_functions.specs.Plain.{IsRegister, IsSignedWord, IsSource, IsReturn, IsMoveOp, IsPlainMove, IsPlain}
use Rattle.insn_table.specs.Closed.{IsInside, IsLeaving, IsClosed}
use Rattle.insn_table.specs.Table.{HasRegisters, IsTableInsn}
use Rattle.insn_table.proofs.ClosedLists.{closed_by}
use Rattle.insn_spellings.proofs.Rows.{named-row}

-- an instruction of 64 bits
abbrev insn : Op → List Operand → ℕ → Insn
insn op args line = record { op = op; w = 64; vex = false; args = args; line = line }

-- rows

-- the mnemonic of a plain instruction
mnemonic_of : Op → List ℕ
mnemonic_of Mov = codes "movq"
mnemonic_of Add = codes "addq"
mnemonic_of Sub = codes "subq"
mnemonic_of Ret = codes "ret"
mnemonic_of _ = []

move-named : (op : Op) → IsMoveOp op → named table_rows (mnemonic_of op) ≡ Some (general op 64)
unfolding table_rows add_to_cltq cmova_to_cmovnc cmovne_to_cmovz cmp_to_lea mov_to_or packss_to_pop por_to_sar set_rows shl_to_test xor_rows vand_to_vpbroadcast vpcmp_to_vpmul vpor_to_vzeroupper mnemonic_of
move-named Mov moves = refl
move-named Add moves = refl
move-named Sub moves = refl
move-named _ moves = absurd moves

return_named : named table_rows (mnemonic_of Ret) ≡ Some (general Ret 64)
unfolding table_rows add_to_cltq cmova_to_cmovnc cmovne_to_cmovz cmp_to_lea mov_to_or packss_to_pop por_to_sar set_rows shl_to_test xor_rows vand_to_vpbroadcast vpcmp_to_vpmul vpor_to_vzeroupper mnemonic_of
return_named = refl

-- operands

or_right : (a b : Bool) → b ≡ true → (a || b) ≡ true
or_right true b h = refl
or_right false b h = h

word-immediate : (v : ℕ) → IsSignedWord v → is_immediate 64 v ≡ true
word-immediate v (inl small) = rw (le-leb v (2 ^ 31 - 1) (omega (arith, small))) refl
word-immediate v (inr great) = or_right _ _ (le-leb (2 ^ 64 - 2 ^ 31) v (omega (arith, great.0)))

-- the operands of a move to a register
abbrev moved : Operand → ℕ → List Operand
moved source m = source ∷ Reg m 64 ∷ Nothing ∷ Nothing ∷ []

-- fits takes these operands as they are
abbrev Accepts : Op → List Operand → ℕ → Type 0
Accepts op args line = fits_of (general op 64) args line ≡ Ok (insn op args line)

register-accepted : (op : Op) (n m line : ℕ) → IsMoveOp op → Accepts op (moved (Reg n 64) m) line
register-accepted Mov n m line moves = refl
register-accepted Add n m line moves = refl
register-accepted Sub n m line moves = refl
register-accepted _ n m line moves = absurd moves

number-accepted : (op : Op) (v m line : ℕ) → IsMoveOp op → is_immediate 64 v ≡ true → Accepts op (moved (Imm v) m) line
number-accepted Mov v m line moves fits = rw fits refl
number-accepted Add v m line moves fits = rw fits refl
number-accepted Sub v m line moves fits = rw fits refl
number-accepted _ v m line moves fits = absurd moves

-- what a plain move needs of its source
record IsFit (op : Op) (source : Operand) (m line n : ℕ) : Type 0 where
  accepted : Accepts op (moved source m) line
  registers : HasRegisters source
  inside : IsInside n source

source-fits : (op : Op) (source : Operand) (m line n : ℕ) → IsMoveOp op → IsSource source → IsFit op source m line n
source-fits op (Reg r w) m line n moves reads =
    record { accepted = subst (λ (x : ℕ). Accepts op (moved (Reg r x) m) line) (sym reads.1) (register-accepted op r m line moves); registers = reads.0; inside = tt }
source-fits op (Imm v) m line n moves reads =
    record { accepted = number-accepted op v m line moves (word-immediate v reads); registers = tt; inside = tt }
source-fits op _ m line n moves reads = absurd reads

-- instructions

-- an instruction of the table that goes to one of n instructions
record IsKept (n : ℕ) (i : Insn) : Type 0 where
  table : IsTableInsn i
  inside : AllByRecursion (IsInside n) i.args

move-kept : (op : Op) (source : Operand) (m line n : ℕ) → IsMoveOp op → IsSource source → m < 16 → IsKept n (insn op (moved source m) line)
move-kept op source m line n moves reads low =
    let fit = source-fits op source m line n moves reads in
    record {
      table = record {
        mnemonic = mnemonic_of op;
        shape = general op 64;
        row = named-row (mnemonic_of op) (general op 64) (move-named op moves);
        accepted = fit.accepted;
        registers = (fit.registers, (low, (tt, (tt, tt))));
      };
      inside = (fit.inside, (tt, (tt, (tt, tt))));
    }

-- a register by its number
register-known : (o : Operand) → IsRegister o → (m : ℕ) × (m < 16) × (o ≡ Reg m 64)
register-known (Reg m w) r = (m, r.0, ap (λ (x : ℕ). Reg m x) r.1)
register-known _ r = absurd r

-- an instruction by its fields
insn-known : (i : Insn) (args : List Operand) → i.w ≡ 64 → i.vex ≡ false → i.args ≡ args → insn i.op args i.line ≡ i
insn-known i args width legacy same = (λ k. record { op = i.op; w = sym width k; vex = sym legacy k; args = sym same k; line = i.line })

plain-kept : (n : ℕ) (i : Insn) → IsPlainMove i → IsKept n i
plain-kept n i p =
    let target = register-known p.target p.move.writes in
    let args : i.args ≡ moved p.source target.0 = p.move.args ∙ ap (λ (x : Operand). p.source ∷ x ∷ Nothing ∷ Nothing ∷ []) target.2 in
    subst (IsKept n) (insn-known i (moved p.source target.0) p.move.width p.move.legacy args)
    (move-kept i.op p.source target.0 i.line n p.op p.move.reads target.1)

return-kept : (n : ℕ) (i : Insn) → IsReturn i → IsKept n i
return-kept n i r =
    let none : List Operand = Nothing ∷ Nothing ∷ Nothing ∷ Nothing ∷ [] in
    let known : insn Ret none i.line ≡ i = ap (λ (op : Op). insn op none i.line) (sym r.op) ∙ insn-known i none r.width r.legacy r.args in
    subst (IsKept n) known
    (record {
      table = record { mnemonic = mnemonic_of Ret; shape = general Ret 64; row = named-row (mnemonic_of Ret) (general Ret 64) return_named; accepted = refl; registers = (tt, (tt, (tt, (tt, tt)))) };
      inside = (tt, (tt, (tt, (tt, tt))));
    })

-- whole functions

tables : (n : ℕ) (moves : List Insn) → AllByRecursion IsPlainMove moves → AllByRecursion IsTableInsn moves
tables n [] each = tt
tables n (m ∷ ms) each = ((plain-kept n m each.0).table, tables n ms each.1)

insides : (n : ℕ) (moves : List Insn) → AllByRecursion IsPlainMove moves → AllByRecursion (λ i. AllByRecursion (IsInside n) i.args) moves
insides n [] each = tt
insides n (m ∷ ms) each = ((plain-kept n m each.0).inside, insides n ms each.1)

closed : (moves : List Insn) (last : Insn) → AllByRecursion IsPlainMove moves → IsReturn last → length (moves ++ last ∷ []) < 2 ^ 32 → IsClosed (moves ++ last ∷ [])
closed moves last each returns few =
    let n : ℕ = length moves + 1 in
    let count : length (moves ++ last ∷ []) ≡ n = length-append moves (last ∷ []) in
    let end = return-kept n last returns in
    closed_by moves last n refl (omega (arith, count, few)) (tables n moves each) (insides n moves each) end.table end.inside
    (subst IsLeaving (sym returns.op) tt)

pub plain-closed : (insns : List Insn) → IsPlain insns → length insns < 2 ^ 32 → IsClosed insns
plain-closed insns p few = subst IsClosed (sym p.whole) (closed p.moves p.last p.each p.returns (subst (λ (x : List Insn). length x < 2 ^ 32) p.whole few))

pub ruleset closing = (plain-closed)
