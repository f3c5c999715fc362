-- The rows have shapes that operations have.
use Rattle.std.proofs.Common.{◌≡◌, ℕ, Bool, true, List, Some, refl}
use Rattle.std.specs.List.{list_all}
use Rattle.insn_spellings.specs.declared.shape.Shape.{Shape}
use Rattle.insn_spellings.specs.Rows.{Row, named}
use Rattle.insn_spellings.specs.Spellings.{table_rows}
use Rattle.insn_spellings.specs.LegacyRows.{add_to_cltq, cmova_to_cmovnc, cmovne_to_cmovz, cmp_to_lea, mov_to_or, packss_to_pop, por_to_sar, set_rows, shl_to_test, xor_rows}
use Rattle.insn_spellings.specs.VexRows.{vand_to_vpbroadcast, vpcmp_to_vpmul, vpor_to_vzeroupper}
use Rattle.insn_spellings.specs.Widths.{is_shape}
use Rattle.insn_spellings.proofs.Rows.{named-row, passed_at}

has_shape : Row → Bool
has_shape row = is_shape row.1

all_have_shapes : list_all has_shape table_rows ≡ true
unfolding table_rows add_to_cltq cmova_to_cmovnc cmovne_to_cmovz cmp_to_lea mov_to_or packss_to_pop por_to_sar set_rows shl_to_test xor_rows vand_to_vpbroadcast vpcmp_to_vpmul vpor_to_vzeroupper has_shape
all_have_shapes = refl

-- the shape that a mnemonic names is one that operations have
pub shape-named : (mnemonic : List ℕ) (shape : Shape) → named table_rows mnemonic ≡ Some shape → is_shape shape ≡ true
unfolding has_shape
shape-named mnemonic shape h =
    let row = named-row mnemonic shape h in
    passed_at has_shape table_rows row.index (mnemonic, shape) all_have_shapes row.there

pub ruleset shapes = (shape-named)
