-- Looking a mnemonic up in rows that stand group after group, and that no mnemonic stands twice.
use Rattle.std.proofs.Common.{◌≡◌, ℕ, zero, suc, true, false, List, [], ◌∷◌, ◌++◌, Bool, if◌then◌else◌, Some, None, refl, sym, ap, ◌∙◌, subst, arith}
use Rattle.std.specs.Prelude.{slice_get}
use Rattle.std.specs.List.{list_all}
use Rattle.std.specs.declared.cmp.Ordering.{Ordering}
use Rattle.std.specs.declared.cmp.Ordering.TheVariants.{Less, Equal, Greater}
use Rattle.std.proofs.lemmas.Option.{same_Some, slice_get_within}
use Rattle.std.specs.Ordering.{nat_cmp, is_lt, is_eq}
use Rattle.std.specs.Str.{bytes_eq}
use Rattle.std.specs.Cmp.Lexicographic.{slice_cmp}
use Rattle.std.proofs.lemmas.Grind.{common_steps}
use Rattle.std.proofs.lemmas.Cmp.{nat_list_cmp_total, tied_itself}
use Rattle.std.proofs.lemmas.Map.Text.{is_eq-slice_cmp}
use Rattle.std.proofs.lemmas.Slice.Eq.{bytes_eq-Decides}
use Rattle.std.specs.Bool.{Decides}
use Rattle.std.proofs.lemmas.Bool.{and_parts}
use Rattle.insn_spellings.specs.declared.shape.Shape.{Shape}
use Rattle.insn_spellings.specs.Rows.{Row, named, in_order_after, in_order, IsRowOf}
use Rattle.insn_spellings.specs.Spellings.{table_rows}
use Rattle.insn_spellings.specs.LegacyRows.{add_to_cltq, cmova_to_cmovnc, cmovne_to_cmovz, cmp_to_lea, mov_to_or, packss_to_pop, por_to_sar, set_rows, shl_to_test, xor_rows}
use Rattle.insn_spellings.specs.VexRows.{vand_to_vpbroadcast, vpcmp_to_vpmul, vpor_to_vzeroupper}

-- a mnemonic that the first rows name is named so by all
pub named-first : (rows more : List Row) (mnemonic : List ℕ) (shape : Shape) → named rows mnemonic ≡ Some shape → named (rows ++ more) mnemonic ≡ Some shape
named-first [] more mnemonic shape h = cc
named-first (row ∷ rows) more mnemonic shape h = grind (arith, common_steps, named-first rows more mnemonic shape)

-- a mnemonic that the first rows don't name is named by the others
pub named-later : (rows more : List Row) (mnemonic : List ℕ) → named rows mnemonic ≡ None → named (rows ++ more) mnemonic ≡ named more mnemonic
named-later [] more mnemonic h = refl
named-later (row ∷ rows) more mnemonic h = grind (arith, common_steps, named-later rows more mnemonic)

pub ruleset found = (named-first, named-later)

-- a mnemonic and one that follows it are less
less-from_test : (o : Ordering) → is_lt o ≡ true → o ≡ Less
less-from_test Less h = refl
less-from_test Equal h = cc
less-from_test Greater h = cc

-- what stands behind a mnemonic, in order, is greater than it
greater-behind : (mnemonic : List ℕ) (rows : List Row) (j : ℕ) (other : Row) → in_order_after mnemonic rows ≡ true → slice_get rows j ≡ Some other → slice_cmp nat_cmp mnemonic other.0 ≡ Less
greater-behind mnemonic [] j other o h = absurd (omega (arith, slice_get_within [] j other h))
greater-behind mnemonic (row ∷ rows) zero other o h =
    let first = less-from_test (slice_cmp nat_cmp mnemonic row.0) (and_parts _ _ o).0 in
    subst (λ (x : Row). slice_cmp nat_cmp mnemonic x.0 ≡ Less) (same_Some row other h) first
greater-behind mnemonic (row ∷ rows) (suc j) other o h =
    let first = less-from_test (slice_cmp nat_cmp mnemonic row.0) (and_parts _ _ o).0 in
    nat_list_cmp_total.trans mnemonic row.0 other.0 first (greater-behind row.0 rows j other (and_parts _ _ o).1 h)

-- rows in order are in order without their first
order-rest : (row : Row) (rows : List Row) → in_order (row ∷ rows) ≡ true → in_order rows ≡ true
order-rest row [] o = refl
order-rest row (next ∷ rows) o = (and_parts _ _ o).1

-- a mnemonic is not less than itself
not_less : (mnemonic other : List ℕ) → slice_cmp nat_cmp mnemonic other ≡ Less → mnemonic ≡ other → ⊥
not_less mnemonic other h e =
    let same : slice_cmp nat_cmp mnemonic mnemonic ≡ Equal = tied_itself nat_list_cmp_total mnemonic in
    let less : slice_cmp nat_cmp mnemonic mnemonic ≡ Less = rw (← e) at h in cc (same, less)

-- two rows in order with one mnemonic are one row
same-index : (rows : List Row) (i j : ℕ) (row other : Row) → in_order rows ≡ true → slice_get rows i ≡ Some row → slice_get rows j ≡ Some other → row.0 ≡ other.0 → i ≡ j
same-index [] i j row other o h k e = absurd (omega (arith, slice_get_within [] i row h))
same-index (first ∷ rows) zero zero row other o h k e = refl
same-index (first ∷ rows) zero (suc j) row other o h k e =
    let less = greater-behind first.0 rows j other o k in
    absurd (not_less first.0 other.0 less (ap (λ (x : Row). x.0) (same_Some first row h) ∙ e))
same-index (first ∷ rows) (suc i) zero row other o h k e =
    let less = greater-behind first.0 rows i row o h in
    absurd (not_less first.0 row.0 less (ap (λ (x : Row). x.0) (same_Some first other k) ∙ sym e))
same-index (first ∷ rows) (suc i) (suc j) row other o h k e =
    ap (λ (n : ℕ). suc n) (same-index rows i j row other (order-rest first rows o) h k e)

-- the mnemonic of a row in order names its shape
row-named : (rows : List Row) (k : ℕ) (row : Row) → in_order rows ≡ true → slice_get rows k ≡ Some row → named rows row.0 ≡ Some row.1
row-named [] k row o h = absurd (omega (arith, slice_get_within [] k row h))
row-named (first ∷ rows) zero row o h =
    let here : bytes_eq first.0 first.0 ≡ true = sym (is_eq-slice_cmp first.0 first.0) ∙ ap is_eq (tied_itself nat_list_cmp_total first.0) in
    subst (λ (x : Row). named (first ∷ rows) x.0 ≡ Some x.1) (same_Some first row h) (rw here refl)
row-named (first ∷ rows) (suc k) row o h =
    let less = greater-behind first.0 rows k row o h in
    let apart : bytes_eq first.0 row.0 ≡ false = sym (is_eq-slice_cmp first.0 row.0) ∙ ap is_eq less in
    rw apart (row-named rows k row (order-rest first rows o) h)

-- a named mnemonic is that of the first row or one behind it
named-here : (row : Row) (rows : List Row) (mnemonic : List ℕ) (shape : Shape) (b : Bool) → Decides b (row.0 ≡ mnemonic)
    → ((named rows mnemonic ≡ Some shape) → IsRowOf rows mnemonic shape) → (if b then Some row.1 else named rows mnemonic) ≡ Some shape → IsRowOf (row ∷ rows) mnemonic shape
named-here row rows mnemonic shape true d next h =
    record { index = 0; there = ap (λ (x : Row). Some x) (λ i. (d.0 refl i, same_Some row.1 shape h i)) }
named-here row rows mnemonic shape false d next h =
    let found = next h in record { index = suc found.index; there = found.there }

-- a named mnemonic is that of a row with the shape
named-index : (rows : List Row) (mnemonic : List ℕ) (shape : Shape) → named rows mnemonic ≡ Some shape → IsRowOf rows mnemonic shape
named-index [] mnemonic shape h = cc
named-index (row ∷ rows) mnemonic shape h = named-here row rows mnemonic shape (bytes_eq row.0 mnemonic) (bytes_eq-Decides row.0 mnemonic) (named-index rows mnemonic shape) h

pub rows_in_order : in_order table_rows ≡ true
unfolding table_rows add_to_cltq cmova_to_cmovnc cmovne_to_cmovz cmp_to_lea mov_to_or packss_to_pop por_to_sar set_rows shl_to_test xor_rows vand_to_vpbroadcast vpcmp_to_vpmul vpor_to_vzeroupper
rows_in_order = refl

-- a test that all pass is passed by each
pub passed_at : {X : Type 0} (p : X → Bool) (xs : List X) (k : ℕ) (x : X) → list_all p xs ≡ true → slice_get xs k ≡ Some x → p x ≡ true
passed_at p [] k x all there = absurd (omega (arith, slice_get_within [] k x there))
passed_at p (y ∷ ys) zero x all there = subst (λ z. p z ≡ true) (same_Some y x there) (and_parts _ _ all).0
passed_at p (y ∷ ys) (suc k) x all there = passed_at p ys k x (and_parts _ _ all).1 there

pub rows-once : (i j : ℕ) (row other : Row) → slice_get table_rows i ≡ Some row → slice_get table_rows j ≡ Some other → row.0 ≡ other.0 → i ≡ j
rows-once i j row other h k e = same-index table_rows i j row other rows_in_order h k e

pub rows-named : (k : ℕ) (row : Row) → slice_get table_rows k ≡ Some row → named table_rows row.0 ≡ Some row.1
rows-named k row h = row-named table_rows k row rows_in_order h

pub named-row : (mnemonic : List ℕ) (shape : Shape) → named table_rows mnemonic ≡ Some shape → IsRowOf table_rows mnemonic shape
named-row mnemonic shape h = named-index table_rows mnemonic shape h

pub ruleset once = (rows_in_order, rows-once)

pub ruleset naming = (rows-named, named-row)
