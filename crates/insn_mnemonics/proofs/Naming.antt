-- The mnemonic that is printed of an instruction of the table names its shape.
use Rattle.std.proofs.Common.{◌≡◌, ◌⊎◌, inl, inr, ℕ, ◌==◌, Bool, true, false, ◌&&◌, ◌||◌, not, if◌then◌else◌, List, [], ◌∷◌, Some, Ok, refl, sym, ◌∙◌, ap, subst, ⊎_elim}
use Rattle.std.specs.List.{find, list_any}
use Rattle.std.proofs.lemmas.Bool.Decides.{Decides-eqb}
use Rattle.insn_ops.specs.declared.op.Cond.{Cond}
use Rattle.insn_ops.specs.declared.op.Cond.TheVariants.{E, Ne, B, Ae, Be, A, L, Ge, Le, G, S, Ns, O, No, P, Np}
use Rattle.insn_ops.specs.declared.op.Op.{Op}
use Rattle.insn_ops.specs.declared.op.Op.TheVariants as ops
use Rattle.insn_ops.specs.declared.vector_op.VectorOp.{VectorOp}
use Rattle.insn_ops.specs.declared.vector_op.VectorOp.TheVariants.{Moving}
use Rattle.insn_ops.specs.declared.vector_op.MoveOp.TheVariants.{Movq}
use Rattle.insn_table.specs.declared.insn.Insn.{Insn}
use Rattle.insn_table.specs.declared.insn.Operand.{Operand}
use Rattle.insn_table.specs.declared.classes.Class.TheVariants.{Readable, Register}
use Rattle.insn_spellings.specs.declared.shape.Shape.{Shape}
use Rattle.insn_table.specs.Classes.{OperandForm, numbers_fit, takes, two}
use Rattle.insn_table.specs.Forms.{chosen, fits_of, forms, insn_of, insn_with, is_quadword_move, is_vector, told_width, width_of}
use Rattle.insn_spellings.specs.Rows.{general, named}
use Rattle.insn_spellings.specs.Spellings.{table_rows}
use Rattle.insn_spellings.specs.LegacyRows.{add_to_cltq, cmova_to_cmovnc, cmovne_to_cmovz, cmp_to_lea, mov_to_or, packss_to_pop, por_to_sar, set_rows, shl_to_test, xor_rows}
use Rattle.insn_spellings.specs.VexRows.{vand_to_vpbroadcast, vpcmp_to_vpmul, vpor_to_vzeroupper}
use Rattle.insn_table.specs.Table.{IsTableInsn}
use Rattle.insn_spellings.specs.Widths.{has_shape, has_suffix, has_width, has_vectors, is_long, is_shape, is_wide, vector_width, widens_to}
use Rattle.std.proofs.lemmas.Bool.{and_parts, or_cases}
use Rattle.insn_table.proofs.TableInsns.{IsMade, fitted-made}
use Rattle.insn_mnemonics.specs.Mnemonics.{mnemonic}
use Rattle.insn_mnemonics.proofs.VectorNaming.{names-vector, quadword_named}
use Rattle.insn_mnemonics.proofs.VectorNaming as vectors

-- the printed mnemonic of a general operation of w bits names it
unfoldable Names : Op → ℕ → Type 0
Names op w = named table_rows (mnemonic op false w) ≡ Some (general op w)

-- a fact at each width that a test allows

by_one : (Fact : ℕ → Type 0) (v w : ℕ) → (w == v) ≡ true → Fact v → Fact w
by_one Fact v w h at = subst Fact (sym ((Decides-eqb w v).0 h)) at

by_two : (Fact : ℕ → Type 0) (w : ℕ) → is_long w ≡ true → Fact 32 → Fact 64 → Fact w
by_two Fact w h at_32 at_64 = ⊎_elim (λ e. by_one Fact 32 w e at_32) (λ e. by_one Fact 64 w e at_64) (or_cases (w == 32) (w == 64) h)

by_wide : (Fact : ℕ → Type 0) (w : ℕ) → is_wide w ≡ true → Fact 16 → Fact 32 → Fact 64 → Fact w
by_wide Fact w h at_16 at_32 at_64 =
    ⊎_elim (λ e. by_one Fact 16 w e at_16) (λ e. by_two Fact w e at_32 at_64) (or_cases (w == 16) (w == 32 || w == 64) h)

by_width : (Fact : ℕ → Type 0) (w : ℕ) → has_suffix w ≡ true → Fact 8 → Fact 16 → Fact 32 → Fact 64 → Fact w
by_width Fact w h at_8 at_16 at_32 at_64 =
    ⊎_elim (λ e. by_one Fact 8 w e at_8) (λ e. by_wide Fact w e at_16 at_32 at_64) (or_cases (w == 8) (is_wide w) h)

-- each row, looked up

names-Mov : (w : ℕ) → has_suffix w ≡ true → Names ops.Mov w
unfolding table_rows add_to_cltq cmova_to_cmovnc cmovne_to_cmovz cmp_to_lea mov_to_or packss_to_pop por_to_sar set_rows shl_to_test xor_rows vand_to_vpbroadcast vpcmp_to_vpmul vpor_to_vzeroupper Names
names-Mov w h = by_width (Names ops.Mov) w h refl refl refl refl

names-Add : (w : ℕ) → has_suffix w ≡ true → Names ops.Add w
unfolding table_rows add_to_cltq cmova_to_cmovnc cmovne_to_cmovz cmp_to_lea mov_to_or packss_to_pop por_to_sar set_rows shl_to_test xor_rows vand_to_vpbroadcast vpcmp_to_vpmul vpor_to_vzeroupper Names
names-Add w h = by_width (Names ops.Add) w h refl refl refl refl

names-Sub : (w : ℕ) → has_suffix w ≡ true → Names ops.Sub w
unfolding table_rows add_to_cltq cmova_to_cmovnc cmovne_to_cmovz cmp_to_lea mov_to_or packss_to_pop por_to_sar set_rows shl_to_test xor_rows vand_to_vpbroadcast vpcmp_to_vpmul vpor_to_vzeroupper Names
names-Sub w h = by_width (Names ops.Sub) w h refl refl refl refl

names-Cmp : (w : ℕ) → has_suffix w ≡ true → Names ops.Cmp w
unfolding table_rows add_to_cltq cmova_to_cmovnc cmovne_to_cmovz cmp_to_lea mov_to_or packss_to_pop por_to_sar set_rows shl_to_test xor_rows vand_to_vpbroadcast vpcmp_to_vpmul vpor_to_vzeroupper Names
names-Cmp w h = by_width (Names ops.Cmp) w h refl refl refl refl

names-Test : (w : ℕ) → has_suffix w ≡ true → Names ops.Test w
unfolding table_rows add_to_cltq cmova_to_cmovnc cmovne_to_cmovz cmp_to_lea mov_to_or packss_to_pop por_to_sar set_rows shl_to_test xor_rows vand_to_vpbroadcast vpcmp_to_vpmul vpor_to_vzeroupper Names
names-Test w h = by_width (Names ops.Test) w h refl refl refl refl

names-And : (w : ℕ) → has_suffix w ≡ true → Names ops.And w
unfolding table_rows add_to_cltq cmova_to_cmovnc cmovne_to_cmovz cmp_to_lea mov_to_or packss_to_pop por_to_sar set_rows shl_to_test xor_rows vand_to_vpbroadcast vpcmp_to_vpmul vpor_to_vzeroupper Names
names-And w h = by_width (Names ops.And) w h refl refl refl refl

names-Or : (w : ℕ) → has_suffix w ≡ true → Names ops.Or w
unfolding table_rows add_to_cltq cmova_to_cmovnc cmovne_to_cmovz cmp_to_lea mov_to_or packss_to_pop por_to_sar set_rows shl_to_test xor_rows vand_to_vpbroadcast vpcmp_to_vpmul vpor_to_vzeroupper Names
names-Or w h = by_width (Names ops.Or) w h refl refl refl refl

names-Xor : (w : ℕ) → has_suffix w ≡ true → Names ops.Xor w
unfolding table_rows add_to_cltq cmova_to_cmovnc cmovne_to_cmovz cmp_to_lea mov_to_or packss_to_pop por_to_sar set_rows shl_to_test xor_rows vand_to_vpbroadcast vpcmp_to_vpmul vpor_to_vzeroupper Names
names-Xor w h = by_width (Names ops.Xor) w h refl refl refl refl

names-Inc : (w : ℕ) → has_suffix w ≡ true → Names ops.Inc w
unfolding table_rows add_to_cltq cmova_to_cmovnc cmovne_to_cmovz cmp_to_lea mov_to_or packss_to_pop por_to_sar set_rows shl_to_test xor_rows vand_to_vpbroadcast vpcmp_to_vpmul vpor_to_vzeroupper Names
names-Inc w h = by_width (Names ops.Inc) w h refl refl refl refl

names-Dec : (w : ℕ) → has_suffix w ≡ true → Names ops.Dec w
unfolding table_rows add_to_cltq cmova_to_cmovnc cmovne_to_cmovz cmp_to_lea mov_to_or packss_to_pop por_to_sar set_rows shl_to_test xor_rows vand_to_vpbroadcast vpcmp_to_vpmul vpor_to_vzeroupper Names
names-Dec w h = by_width (Names ops.Dec) w h refl refl refl refl

names-Neg : (w : ℕ) → has_suffix w ≡ true → Names ops.Neg w
unfolding table_rows add_to_cltq cmova_to_cmovnc cmovne_to_cmovz cmp_to_lea mov_to_or packss_to_pop por_to_sar set_rows shl_to_test xor_rows vand_to_vpbroadcast vpcmp_to_vpmul vpor_to_vzeroupper Names
names-Neg w h = by_width (Names ops.Neg) w h refl refl refl refl

names-Not : (w : ℕ) → has_suffix w ≡ true → Names ops.Not w
unfolding table_rows add_to_cltq cmova_to_cmovnc cmovne_to_cmovz cmp_to_lea mov_to_or packss_to_pop por_to_sar set_rows shl_to_test xor_rows vand_to_vpbroadcast vpcmp_to_vpmul vpor_to_vzeroupper Names
names-Not w h = by_width (Names ops.Not) w h refl refl refl refl

names-Shl : (w : ℕ) → has_suffix w ≡ true → Names ops.Shl w
unfolding table_rows add_to_cltq cmova_to_cmovnc cmovne_to_cmovz cmp_to_lea mov_to_or packss_to_pop por_to_sar set_rows shl_to_test xor_rows vand_to_vpbroadcast vpcmp_to_vpmul vpor_to_vzeroupper Names
names-Shl w h = by_width (Names ops.Shl) w h refl refl refl refl

names-Shr : (w : ℕ) → has_suffix w ≡ true → Names ops.Shr w
unfolding table_rows add_to_cltq cmova_to_cmovnc cmovne_to_cmovz cmp_to_lea mov_to_or packss_to_pop por_to_sar set_rows shl_to_test xor_rows vand_to_vpbroadcast vpcmp_to_vpmul vpor_to_vzeroupper Names
names-Shr w h = by_width (Names ops.Shr) w h refl refl refl refl

names-Sar : (w : ℕ) → has_suffix w ≡ true → Names ops.Sar w
unfolding table_rows add_to_cltq cmova_to_cmovnc cmovne_to_cmovz cmp_to_lea mov_to_or packss_to_pop por_to_sar set_rows shl_to_test xor_rows vand_to_vpbroadcast vpcmp_to_vpmul vpor_to_vzeroupper Names
names-Sar w h = by_width (Names ops.Sar) w h refl refl refl refl

names-Imul : (w : ℕ) → is_wide w ≡ true → Names ops.Imul w
unfolding table_rows add_to_cltq cmova_to_cmovnc cmovne_to_cmovz cmp_to_lea mov_to_or packss_to_pop por_to_sar set_rows shl_to_test xor_rows vand_to_vpbroadcast vpcmp_to_vpmul vpor_to_vzeroupper Names
names-Imul w h = by_wide (Names ops.Imul) w h refl refl refl

names-Lea : (w : ℕ) → is_long w ≡ true → Names ops.Lea w
unfolding table_rows add_to_cltq cmova_to_cmovnc cmovne_to_cmovz cmp_to_lea mov_to_or packss_to_pop por_to_sar set_rows shl_to_test xor_rows vand_to_vpbroadcast vpcmp_to_vpmul vpor_to_vzeroupper Names
names-Lea w h = by_two (Names ops.Lea) w h refl refl

names-Cmov_16 : (c : Cond) → Names (ops.Cmov c) 16
unfolding table_rows add_to_cltq cmova_to_cmovnc cmovne_to_cmovz cmp_to_lea mov_to_or packss_to_pop por_to_sar set_rows shl_to_test xor_rows vand_to_vpbroadcast vpcmp_to_vpmul vpor_to_vzeroupper Names
names-Cmov_16 E = refl
names-Cmov_16 Ne = refl
names-Cmov_16 B = refl
names-Cmov_16 Ae = refl
names-Cmov_16 Be = refl
names-Cmov_16 A = refl
names-Cmov_16 L = refl
names-Cmov_16 Ge = refl
names-Cmov_16 Le = refl
names-Cmov_16 G = refl
names-Cmov_16 S = refl
names-Cmov_16 Ns = refl
names-Cmov_16 O = refl
names-Cmov_16 No = refl
names-Cmov_16 P = refl
names-Cmov_16 Np = refl

names-Cmov_32 : (c : Cond) → Names (ops.Cmov c) 32
unfolding table_rows add_to_cltq cmova_to_cmovnc cmovne_to_cmovz cmp_to_lea mov_to_or packss_to_pop por_to_sar set_rows shl_to_test xor_rows vand_to_vpbroadcast vpcmp_to_vpmul vpor_to_vzeroupper Names
names-Cmov_32 E = refl
names-Cmov_32 Ne = refl
names-Cmov_32 B = refl
names-Cmov_32 Ae = refl
names-Cmov_32 Be = refl
names-Cmov_32 A = refl
names-Cmov_32 L = refl
names-Cmov_32 Ge = refl
names-Cmov_32 Le = refl
names-Cmov_32 G = refl
names-Cmov_32 S = refl
names-Cmov_32 Ns = refl
names-Cmov_32 O = refl
names-Cmov_32 No = refl
names-Cmov_32 P = refl
names-Cmov_32 Np = refl

names-Cmov_64 : (c : Cond) → Names (ops.Cmov c) 64
unfolding table_rows add_to_cltq cmova_to_cmovnc cmovne_to_cmovz cmp_to_lea mov_to_or packss_to_pop por_to_sar set_rows shl_to_test xor_rows vand_to_vpbroadcast vpcmp_to_vpmul vpor_to_vzeroupper Names
names-Cmov_64 E = refl
names-Cmov_64 Ne = refl
names-Cmov_64 B = refl
names-Cmov_64 Ae = refl
names-Cmov_64 Be = refl
names-Cmov_64 A = refl
names-Cmov_64 L = refl
names-Cmov_64 Ge = refl
names-Cmov_64 Le = refl
names-Cmov_64 G = refl
names-Cmov_64 S = refl
names-Cmov_64 Ns = refl
names-Cmov_64 O = refl
names-Cmov_64 No = refl
names-Cmov_64 P = refl
names-Cmov_64 Np = refl

names-Set : (c : Cond) → Names (ops.Set c) 8
unfolding table_rows add_to_cltq cmova_to_cmovnc cmovne_to_cmovz cmp_to_lea mov_to_or packss_to_pop por_to_sar set_rows shl_to_test xor_rows vand_to_vpbroadcast vpcmp_to_vpmul vpor_to_vzeroupper Names
names-Set E = refl
names-Set Ne = refl
names-Set B = refl
names-Set Ae = refl
names-Set Be = refl
names-Set A = refl
names-Set L = refl
names-Set Ge = refl
names-Set Le = refl
names-Set G = refl
names-Set S = refl
names-Set Ns = refl
names-Set O = refl
names-Set No = refl
names-Set P = refl
names-Set Np = refl

names-Jump : (c : Cond) → Names (ops.Jump c) 64
unfolding table_rows add_to_cltq cmova_to_cmovnc cmovne_to_cmovz cmp_to_lea mov_to_or packss_to_pop por_to_sar set_rows shl_to_test xor_rows vand_to_vpbroadcast vpcmp_to_vpmul vpor_to_vzeroupper Names
names-Jump E = refl
names-Jump Ne = refl
names-Jump B = refl
names-Jump Ae = refl
names-Jump Be = refl
names-Jump A = refl
names-Jump L = refl
names-Jump Ge = refl
names-Jump Le = refl
names-Jump G = refl
names-Jump S = refl
names-Jump Ns = refl
names-Jump O = refl
names-Jump No = refl
names-Jump P = refl
names-Jump Np = refl

names-from_8 : (w : ℕ) → is_wide w ≡ true → Names (ops.Movzx 8) w × Names (ops.Movsx 8) w
unfolding table_rows add_to_cltq cmova_to_cmovnc cmovne_to_cmovz cmp_to_lea mov_to_or packss_to_pop por_to_sar set_rows shl_to_test xor_rows vand_to_vpbroadcast vpcmp_to_vpmul vpor_to_vzeroupper Names
names-from_8 w h = by_wide (λ v. Names (ops.Movzx 8) v × Names (ops.Movsx 8) v) w h (refl, refl) (refl, refl) (refl, refl)

names-from_16 : (w : ℕ) → is_long w ≡ true → Names (ops.Movzx 16) w × Names (ops.Movsx 16) w
unfolding table_rows add_to_cltq cmova_to_cmovnc cmovne_to_cmovz cmp_to_lea mov_to_or packss_to_pop por_to_sar set_rows shl_to_test xor_rows vand_to_vpbroadcast vpcmp_to_vpmul vpor_to_vzeroupper Names
names-from_16 w h = by_two (λ v. Names (ops.Movzx 16) v × Names (ops.Movsx 16) v) w h (refl, refl) (refl, refl)

names-from_32 : Names (ops.Movsx 32) 64
unfolding table_rows add_to_cltq cmova_to_cmovnc cmovne_to_cmovz cmp_to_lea mov_to_or packss_to_pop por_to_sar set_rows shl_to_test xor_rows vand_to_vpbroadcast vpcmp_to_vpmul vpor_to_vzeroupper Names
names-from_32 = refl

names-Movabs : Names ops.Movabs 64
unfolding table_rows add_to_cltq cmova_to_cmovnc cmovne_to_cmovz cmp_to_lea mov_to_or packss_to_pop por_to_sar set_rows shl_to_test xor_rows vand_to_vpbroadcast vpcmp_to_vpmul vpor_to_vzeroupper Names
names-Movabs = refl

names-Cltq : Names ops.Cltq 64
unfolding table_rows add_to_cltq cmova_to_cmovnc cmovne_to_cmovz cmp_to_lea mov_to_or packss_to_pop por_to_sar set_rows shl_to_test xor_rows vand_to_vpbroadcast vpcmp_to_vpmul vpor_to_vzeroupper Names
names-Cltq = refl

names-Jmp : Names ops.Jmp 64
unfolding table_rows add_to_cltq cmova_to_cmovnc cmovne_to_cmovz cmp_to_lea mov_to_or packss_to_pop por_to_sar set_rows shl_to_test xor_rows vand_to_vpbroadcast vpcmp_to_vpmul vpor_to_vzeroupper Names
names-Jmp = refl

names-Push : Names ops.Push 64
unfolding table_rows add_to_cltq cmova_to_cmovnc cmovne_to_cmovz cmp_to_lea mov_to_or packss_to_pop por_to_sar set_rows shl_to_test xor_rows vand_to_vpbroadcast vpcmp_to_vpmul vpor_to_vzeroupper Names
names-Push = refl

names-Pop : Names ops.Pop 64
unfolding table_rows add_to_cltq cmova_to_cmovnc cmovne_to_cmovz cmp_to_lea mov_to_or packss_to_pop por_to_sar set_rows shl_to_test xor_rows vand_to_vpbroadcast vpcmp_to_vpmul vpor_to_vzeroupper Names
names-Pop = refl

names-Ret : Names ops.Ret 64
unfolding table_rows add_to_cltq cmova_to_cmovnc cmovne_to_cmovz cmp_to_lea mov_to_or packss_to_pop por_to_sar set_rows shl_to_test xor_rows vand_to_vpbroadcast vpcmp_to_vpmul vpor_to_vzeroupper Names
names-Ret = refl

names-Nop : Names ops.Nop 64
unfolding table_rows add_to_cltq cmova_to_cmovnc cmovne_to_cmovz cmp_to_lea mov_to_or packss_to_pop por_to_sar set_rows shl_to_test xor_rows vand_to_vpbroadcast vpcmp_to_vpmul vpor_to_vzeroupper Names
names-Nop = refl

names-Endbr64 : Names ops.Endbr64 64
unfolding table_rows add_to_cltq cmova_to_cmovnc cmovne_to_cmovz cmp_to_lea mov_to_or packss_to_pop por_to_sar set_rows shl_to_test xor_rows vand_to_vpbroadcast vpcmp_to_vpmul vpor_to_vzeroupper Names
names-Endbr64 = refl

names-zero : (from w : ℕ) → widens_to from w ≡ true → Names (ops.Movzx from) w
names-zero from w h =
    ⊎_elim
    (λ e. let parts = and_parts (from == 8) (is_wide w) e in by_one (λ m. Names (ops.Movzx m) w) 8 from parts.0 (names-from_8 w parts.1).0)
    (λ e. let parts = and_parts (from == 16) (is_long w) e in by_one (λ m. Names (ops.Movzx m) w) 16 from parts.0 (names-from_16 w parts.1).0)
    (or_cases (from == 8 && is_wide w) (from == 16 && is_long w) h)

names-sign_by : (from w : ℕ) → widens_to from w ≡ true → Names (ops.Movsx from) w
names-sign_by from w h =
    ⊎_elim
    (λ e. let parts = and_parts (from == 8) (is_wide w) e in by_one (λ m. Names (ops.Movsx m) w) 8 from parts.0 (names-from_8 w parts.1).1)
    (λ e. let parts = and_parts (from == 16) (is_long w) e in by_one (λ m. Names (ops.Movsx m) w) 16 from parts.0 (names-from_16 w parts.1).1)
    (or_cases (from == 8 && is_wide w) (from == 16 && is_long w) h)

names-sign : (from w : ℕ) → (widens_to from w || (from == 32 && w == 64)) ≡ true → Names (ops.Movsx from) w
names-sign from w h =
    ⊎_elim
    (λ e. names-sign_by from w e)
    (λ e. let parts = and_parts (from == 32) (w == 64) e in
    by_one (λ m. Names (ops.Movsx m) w) 32 from parts.0 (by_one (Names (ops.Movsx 32)) 64 w parts.1 names-from_32))
    (or_cases (widens_to from w) (from == 32 && w == 64) h)

-- a move by condition whose width is written
names-Cmov : (c : Cond) (w : ℕ) → is_wide w ≡ true → Names (ops.Cmov c) w
names-Cmov c w h = by_wide (Names (ops.Cmov c)) w h (names-Cmov_16 c) (names-Cmov_32 c) (names-Cmov_64 c)

written-wide : (w : ℕ) → (w == 0 || is_wide w) ≡ true → (w == 0) ≡ false → is_wide w ≡ true
written-wide w h written = rw written at h

-- a general operation that mnemonics name at a width, where the width is written
names : (op : Op) (w : ℕ) → has_width op w ≡ true → (w == 0) ≡ false → Names op w
names ops.Mov w h written = names-Mov w h
names ops.Add w h written = names-Add w h
names ops.Sub w h written = names-Sub w h
names ops.Cmp w h written = names-Cmp w h
names ops.Test w h written = names-Test w h
names ops.And w h written = names-And w h
names ops.Or w h written = names-Or w h
names ops.Xor w h written = names-Xor w h
names ops.Inc w h written = names-Inc w h
names ops.Dec w h written = names-Dec w h
names ops.Neg w h written = names-Neg w h
names ops.Not w h written = names-Not w h
names ops.Shl w h written = names-Shl w h
names ops.Shr w h written = names-Shr w h
names ops.Sar w h written = names-Sar w h
names ops.Imul w h written = names-Imul w h
names ops.Lea w h written = names-Lea w h
names (ops.Movzx from) w h written = names-zero from w h
names (ops.Movsx from) w h written = names-sign from w h
names (ops.Cmov c) w h written = names-Cmov c w (written-wide w h written)
names (ops.Set c) w h written = by_one (Names (ops.Set c)) 8 w h (names-Set c)
names (ops.Jump c) w h written = by_one (Names (ops.Jump c)) 64 w h (names-Jump c)
names ops.Movabs w h written = by_one (Names ops.Movabs) 64 w h names-Movabs
names ops.Cltq w h written = by_one (Names ops.Cltq) 64 w h names-Cltq
names ops.Jmp w h written = by_one (Names ops.Jmp) 64 w h names-Jmp
names ops.Push w h written = by_one (Names ops.Push) 64 w h names-Push
names ops.Pop w h written = by_one (Names ops.Pop) 64 w h names-Pop
names ops.Ret w h written = by_one (Names ops.Ret) 64 w h names-Ret
names ops.Nop w h written = by_one (Names ops.Nop) 64 w h names-Nop
names ops.Endbr64 w h written = by_one (Names ops.Endbr64) 64 w h names-Endbr64
names (ops.Vector op) w h written = cc

-- an operation on vectors, whose mnemonic tells no width
abbrev IsOfVectors : Op → Type 0
IsOfVectors (ops.Vector op) = Unit {0}
IsOfVectors _ = ⊥

no_vex : (b : Bool) → not b ≡ true → b ≡ false
no_vex true h = cc
no_vex false h = refl

-- the shape that a mnemonic names is named by the one that is printed, where its width is written or told by vectors
shape-printed : (op : Op) (vex : Bool) (v w : ℕ) → has_shape op vex v ≡ true → ((v == 0) ≡ false → w ≡ v) → ((v == 0) ≡ false) ⊎ IsOfVectors op
    → named table_rows (mnemonic op vex w) ≡ Some (record { op = op; w = v; vex = vex })
unfolding Names vectors.Names
shape-printed (ops.Vector op) vex v w h same written =
    let both = and_parts (has_vectors vex op) (v == vector_width vex op) h in
    let width : v ≡ vector_width vex op = (Decides-eqb v (vector_width vex op)).0 both.1 in
    names-vector vex op both.0 ∙ ap (λ (x : ℕ). Some (record { op = ops.Vector op; w = x; vex = vex })) (sym width)
shape-printed op vex v w h same (inl written) =
    let both = and_parts (not vex) (has_width op v) h in
    let here : named table_rows (mnemonic op false v) ≡ Some (general op v) = names op v both.1 written in
    let there : named table_rows (mnemonic op vex w) ≡ named table_rows (mnemonic op false v) = (λ k. named table_rows (mnemonic op (no_vex vex both.0 k) (same written k))) in
    let shape : general op v ≡ record { op = op; w = v; vex = vex } = (λ k. record { op = op; w = v; vex = sym (no_vex vex both.0) k }) in
    there ∙ here ∙ ap (λ (x : Shape). Some x) shape
shape-printed op vex v w h same (inr none) = absurd none

-- moves by condition alone leave their width out

widens_to_none : (from : ℕ) → widens_to from 0 ≡ true → ⊥
widens_to_none from h =
    ⊎_elim (λ e. let both = and_parts (from == 8) false e in let no : false ≡ true = both.1 in cc)
    (λ e. let both = and_parts (from == 16) false e in let no : false ≡ true = both.1 in cc)
    (or_cases (from == 8 && false) (from == 16 && false) h)

signed_none : (from : ℕ) → (widens_to from 0 || (from == 32 && false)) ≡ true → ⊥
signed_none from h =
    ⊎_elim (λ e. widens_to_none from e)
    (λ e. let both = and_parts (from == 32) false e in let no : false ≡ true = both.1 in cc)
    (or_cases (widens_to from 0) (from == 32 && false) h)

unwritten-move : (op : Op) → has_width op 0 ≡ true → (c : Cond) × (op ≡ ops.Cmov c)
unwritten-move (ops.Cmov c) h = (c, refl)
unwritten-move (ops.Movzx from) h = absurd (widens_to_none from h)
unwritten-move (ops.Movsx from) h = absurd (signed_none from h)
unwritten-move _ h = cc

wide-written : (w : ℕ) → is_wide w ≡ true → (w == 0) ≡ false
wide-written w h = by_wide (λ v. (v == 0) ≡ false) w h refl refl refl

-- a move by condition is made again of its width
move-again : (c : Cond) (w : ℕ) (args : List Operand) (line : ℕ) (form : OperandForm) → is_wide w ≡ true → find (takes args) (forms (ops.Cmov c) false w) ≡ Some form
    → numbers_fit args form ≡ true → fits_of (general (ops.Cmov c) w) args line ≡ Ok (record { op = ops.Cmov c; w = w; vex = false; args = args; line = line })
move-again c w args line form wide found numbers = rw (wide-written w wide, found, wide, numbers) refl

found_only_wide : (b : Bool) (p : OperandForm → Bool) (form found : OperandForm) → find p (if b then form ∷ [] else []) ≡ Some found → b ≡ true
found_only_wide true p form found h = refl
found_only_wide false p form found h = cc

-- the printed mnemonic of an instruction names a shape of which it is made again
unfoldable IsPrinted : Insn → Type 0
IsPrinted i = (shape : Shape) × (named table_rows (mnemonic i.op i.vex i.w) ≡ Some shape) × (fits_of shape i.args i.line ≡ Ok i)

move-printed : (c : Cond) (w : ℕ) (args : List Operand) (line : ℕ) (form : OperandForm) → find (takes args) (forms (ops.Cmov c) false w) ≡ Some form
    → numbers_fit args form ≡ true → IsPrinted (record { op = ops.Cmov c; w = w; vex = false; args = args; line = line })
unfolding IsPrinted Names
move-printed c w args line form found numbers =
    let wide : is_wide w ≡ true = found_only_wide (is_wide w) (takes args) (two (Readable w) (Register w)) form found in
    (general (ops.Cmov c) w, names-Cmov c w wide, move-again c w args line form wide found numbers)

-- where the shape is the row's
kept-printed : (unwritten : Bool) (op : Op) (vex : Bool) (v : ℕ) (i : Insn) → (v == 0) ≡ unwritten → i.op ≡ op → i.vex ≡ vex
    → ((v == 0) ≡ false → i.w ≡ v) → (form : OperandForm) → has_shape op vex v ≡ true → find (takes i.args) (forms i.op i.vex i.w) ≡ Some form
    → numbers_fit i.args form ≡ true → fits_of (record { op = op; w = v; vex = vex }) i.args i.line ≡ Ok i → IsPrinted i
unfolding IsPrinted
kept-printed false op vex v i e same_op same_vex width form known found numbers accepted =
    let same : named table_rows (mnemonic i.op i.vex i.w) ≡ named table_rows (mnemonic op vex i.w) = (λ k. named table_rows (mnemonic (same_op k) (same_vex k) i.w)) in
    (record { op = op; w = v; vex = vex }, same ∙ shape-printed op vex v i.w known width (inl e), accepted)
kept-printed true (ops.Vector op) vex v i e same_op same_vex width form known found numbers accepted =
    let same : named table_rows (mnemonic i.op i.vex i.w) ≡ named table_rows (mnemonic (ops.Vector op) vex i.w) = (λ k. named table_rows (mnemonic (same_op k) (same_vex k) i.w)) in
    (record { op = ops.Vector op; w = v; vex = vex }, same ∙ shape-printed (ops.Vector op) vex v i.w known width (inr tt), accepted)
kept-printed true op vex v i e same_op same_vex width form known found numbers accepted =
    let both = and_parts (not vex) (has_width op v) known in
    let none : v ≡ 0 = (Decides-eqb v 0).0 e in
    let move = unwritten-move op (subst (λ (x : ℕ). has_width op x ≡ true) none both.1) in
    let is_move : i.op ≡ ops.Cmov move.0 = same_op ∙ move.1 in
    let legacy : i.vex ≡ false = same_vex ∙ no_vex vex both.0 in
    let same : find (takes i.args) (forms (ops.Cmov move.0) false i.w) ≡ find (takes i.args) (forms i.op i.vex i.w) = (λ k. find (takes i.args) (forms (sym is_move k) (sym legacy k) i.w)) in
    let form_found : find (takes i.args) (forms (ops.Cmov move.0) false i.w) ≡ Some form = same ∙ found in
    subst IsPrinted (λ k. record { op = sym is_move k; w = i.w; vex = sym legacy k; args = i.args; line = i.line })
    (move-printed move.0 i.w i.args i.line form form_found numbers)

quadword-shape : (op : Op) (w : ℕ) (vex : Bool) → is_quadword_move op w vex ≡ true → general ops.Mov 64 ≡ record { op = op; w = w; vex = vex }
quadword-shape ops.Mov w vex h =
    let both = and_parts (not vex) (w == 64) h in
    λ k. record { op = ops.Mov; w = sym ((Decides-eqb w 64).0 both.1) k; vex = sym (no_vex vex both.0) k }
quadword-shape _ w vex h = cc

chosen-printed : (b : Bool) (shape : Shape) (i : Insn) → (is_quadword_move shape.op shape.w shape.vex && list_any is_vector i.args) ≡ b
    → IsMade shape i.args i.line i → fits_of shape i.args i.line ≡ Ok i → IsPrinted i
unfolding IsPrinted
chosen-printed true shape i e made accepted =
    let row : chosen shape i.args ≡ general (ops.Vector (Moving Movq)) 128 = rw e refl in
    let op : i.op ≡ ops.Vector (Moving Movq) = sym (ap (λ (x : Insn). x.op) made.same) ∙ ap (λ (r : Shape). r.op) row in
    let vex : i.vex ≡ false = sym (ap (λ (x : Insn). x.vex) made.same) ∙ ap (λ (r : Shape). r.vex) row in
    let is : general ops.Mov 64 ≡ shape = quadword-shape shape.op shape.w shape.vex (and_parts _ _ e).0 in
    let same : named table_rows (mnemonic i.op i.vex i.w) ≡ named table_rows (mnemonic (ops.Vector (Moving Movq)) false i.w) = (λ k. named table_rows (mnemonic (op k) (vex k) i.w)) in
    (general ops.Mov 64, same ∙ quadword_named, subst (λ (x : Shape). fits_of x i.args i.line ≡ Ok i) (sym is) accepted)
chosen-printed false shape i e made accepted =
    let row : chosen shape i.args ≡ shape = rw e refl in
    let whole : insn_with shape i.args i.line ≡ i = ap (λ (r : Shape). insn_with r i.args i.line) (sym row) ∙ made.same in
    let told : i.w ≡ width_of shape i.args = sym (ap (λ (x : Insn). x.w) whole) in
    kept-printed (shape.w == 0) shape.op shape.vex shape.w i refl (sym (ap (λ (x : Insn). x.op) whole)) (sym (ap (λ (x : Insn). x.vex) whole))
    (λ written. told ∙ rw written refl) made.form made.named made.taken made.numbers accepted

-- The mnemonic that is printed of an instruction of the table names a shape of which it is made again.
pub names-shape : (i : Insn) → IsTableInsn i → (shape : Shape) × (named table_rows (mnemonic i.op i.vex i.w) ≡ Some shape) × (fits_of shape i.args i.line ≡ Ok i)
unfolding IsPrinted
names-shape i t = chosen-printed (is_quadword_move t.shape.op t.shape.w t.shape.vex && list_any is_vector i.args) t.shape i refl (fitted-made t.shape i.args i.line i t.accepted) t.accepted

pub ruleset naming = (names-shape)
