-- The mnemonic that is printed of an operation on vectors names it.
use Rattle.std.proofs.Common.{◌≡◌, Bool, true, false, Some, refl}
use Rattle.insn_ops.specs.declared.op.Op.TheVariants.{Mov, Vector}
use Rattle.insn_ops.specs.declared.vector_op.LaneWidth.{LaneWidth}
use Rattle.insn_ops.specs.declared.vector_op.LaneWidth.TheVariants.{Byte, Word, Doubleword, Quadword}
use Rattle.insn_ops.specs.declared.vector_op.LaneOp.{LaneOp}
use Rattle.insn_ops.specs.declared.vector_op.LaneOp.TheVariants as lanes
use Rattle.insn_ops.specs.declared.vector_op.MoveOp.{MoveOp}
use Rattle.insn_ops.specs.declared.vector_op.MoveOp.TheVariants as moves
use Rattle.insn_ops.specs.declared.vector_op.VectorOp.{VectorOp}
use Rattle.insn_ops.specs.declared.vector_op.VectorOp.TheVariants.{Lanewise, Moving, Pmaddwd, Psadbw, Pshufb, Pmovmskb, Vzeroupper}
use Rattle.insn_spellings.specs.Rows.{general, named}
use Rattle.insn_spellings.specs.Spellings.{table_rows}
use Rattle.insn_spellings.specs.LegacyRows.{add_to_cltq, cmova_to_cmovnc, cmovne_to_cmovz, cmp_to_lea, mov_to_or, packss_to_pop, por_to_sar, set_rows, shl_to_test, xor_rows}
use Rattle.insn_spellings.specs.VexRows.{vand_to_vpbroadcast, vpcmp_to_vpmul, vpor_to_vzeroupper}
use Rattle.insn_spellings.specs.Widths.{has_lanes, has_move, has_vectors, vector_width}
use Rattle.insn_mnemonics.specs.Mnemonics.{mnemonic}

-- the printed mnemonic names the row
unfoldable pub Names : Bool → VectorOp → Type 0
Names vex op = named table_rows (mnemonic (Vector op) vex 0) ≡ Some (record { op = Vector op; w = vector_width vex op; vex = vex })

-- operations by lane

names-lanes : (vex : Bool) (op : LaneOp) → has_lanes vex op ≡ true → Names vex (Lanewise op)
unfolding table_rows add_to_cltq cmova_to_cmovnc cmovne_to_cmovz cmp_to_lea mov_to_or packss_to_pop por_to_sar set_rows shl_to_test xor_rows vand_to_vpbroadcast vpcmp_to_vpmul vpor_to_vzeroupper Names
names-lanes true (lanes.Padd Byte) h = refl
names-lanes true (lanes.Padd _) h = refl
names-lanes true (lanes.Psub Byte) h = refl
names-lanes true (lanes.Psub _) h = refl
names-lanes true (lanes.Padds Byte) h = refl
names-lanes true (lanes.Padds Word) h = refl
names-lanes true (lanes.Padds _) h = cc
names-lanes true (lanes.Psubs Byte) h = refl
names-lanes true (lanes.Psubs Word) h = refl
names-lanes true (lanes.Psubs _) h = cc
names-lanes true (lanes.Paddus Byte) h = refl
names-lanes true (lanes.Paddus Word) h = refl
names-lanes true (lanes.Paddus _) h = cc
names-lanes true (lanes.Psubus Byte) h = refl
names-lanes true (lanes.Psubus Word) h = refl
names-lanes true (lanes.Psubus _) h = cc
names-lanes true lanes.Pand h = refl
names-lanes true lanes.Pandn h = refl
names-lanes true lanes.Por h = refl
names-lanes true lanes.Pxor h = refl
names-lanes true (lanes.Pcmpeq Byte) h = refl
names-lanes true (lanes.Pcmpeq Word) h = refl
names-lanes true (lanes.Pcmpeq Doubleword) h = refl
names-lanes true (lanes.Pcmpeq _) h = cc
names-lanes true (lanes.Pcmpgt Byte) h = refl
names-lanes true (lanes.Pcmpgt Word) h = refl
names-lanes true (lanes.Pcmpgt Doubleword) h = refl
names-lanes true (lanes.Pcmpgt _) h = cc
names-lanes true (lanes.Pmull Word) h = refl
names-lanes true (lanes.Pmull Doubleword) h = refl
names-lanes true (lanes.Pmull _) h = cc
names-lanes true lanes.Pmulhw h = refl
names-lanes true lanes.Pmulhuw h = refl
names-lanes true lanes.Pmuludq h = refl
names-lanes true (lanes.Psll Word) h = refl
names-lanes true (lanes.Psll Doubleword) h = refl
names-lanes true (lanes.Psll Quadword) h = refl
names-lanes true (lanes.Psll _) h = cc
names-lanes true (lanes.Psrl Word) h = refl
names-lanes true (lanes.Psrl Doubleword) h = refl
names-lanes true (lanes.Psrl Quadword) h = refl
names-lanes true (lanes.Psrl _) h = cc
names-lanes true (lanes.Psra Word) h = refl
names-lanes true (lanes.Psra Doubleword) h = refl
names-lanes true (lanes.Psra _) h = cc
names-lanes true (lanes.Pmins Byte) h = refl
names-lanes true (lanes.Pmins Word) h = refl
names-lanes true (lanes.Pmins Doubleword) h = refl
names-lanes true (lanes.Pmins _) h = cc
names-lanes true (lanes.Pmaxs Byte) h = refl
names-lanes true (lanes.Pmaxs Word) h = refl
names-lanes true (lanes.Pmaxs Doubleword) h = refl
names-lanes true (lanes.Pmaxs _) h = cc
names-lanes true (lanes.Pminu Byte) h = refl
names-lanes true (lanes.Pminu Word) h = refl
names-lanes true (lanes.Pminu Doubleword) h = refl
names-lanes true (lanes.Pminu _) h = cc
names-lanes true (lanes.Pmaxu Byte) h = refl
names-lanes true (lanes.Pmaxu Word) h = refl
names-lanes true (lanes.Pmaxu Doubleword) h = refl
names-lanes true (lanes.Pmaxu _) h = cc
names-lanes true (lanes.Pavg Byte) h = refl
names-lanes true (lanes.Pavg Word) h = refl
names-lanes true (lanes.Pavg _) h = cc
names-lanes true (lanes.Pabs Byte) h = refl
names-lanes true (lanes.Pabs Word) h = refl
names-lanes true (lanes.Pabs Doubleword) h = refl
names-lanes true (lanes.Pabs _) h = cc
names-lanes false (lanes.Padd Byte) h = refl
names-lanes false (lanes.Padd _) h = refl
names-lanes false (lanes.Psub Byte) h = refl
names-lanes false (lanes.Psub _) h = refl
names-lanes false (lanes.Padds Byte) h = refl
names-lanes false (lanes.Padds Word) h = refl
names-lanes false (lanes.Padds _) h = cc
names-lanes false (lanes.Psubs Byte) h = refl
names-lanes false (lanes.Psubs Word) h = refl
names-lanes false (lanes.Psubs _) h = cc
names-lanes false (lanes.Paddus Byte) h = refl
names-lanes false (lanes.Paddus Word) h = refl
names-lanes false (lanes.Paddus _) h = cc
names-lanes false (lanes.Psubus Byte) h = refl
names-lanes false (lanes.Psubus Word) h = refl
names-lanes false (lanes.Psubus _) h = cc
names-lanes false lanes.Pand h = refl
names-lanes false lanes.Pandn h = refl
names-lanes false lanes.Por h = refl
names-lanes false lanes.Pxor h = refl
names-lanes false (lanes.Pcmpeq Byte) h = refl
names-lanes false (lanes.Pcmpeq Word) h = refl
names-lanes false (lanes.Pcmpeq Doubleword) h = refl
names-lanes false (lanes.Pcmpeq _) h = cc
names-lanes false (lanes.Pcmpgt Byte) h = refl
names-lanes false (lanes.Pcmpgt Word) h = refl
names-lanes false (lanes.Pcmpgt Doubleword) h = refl
names-lanes false (lanes.Pcmpgt _) h = cc
names-lanes false (lanes.Pmull Word) h = refl
names-lanes false (lanes.Pmull _) h = cc
names-lanes false lanes.Pmulhw h = refl
names-lanes false lanes.Pmulhuw h = refl
names-lanes false lanes.Pmuludq h = refl
names-lanes false (lanes.Psll Word) h = refl
names-lanes false (lanes.Psll Doubleword) h = refl
names-lanes false (lanes.Psll Quadword) h = refl
names-lanes false (lanes.Psll _) h = cc
names-lanes false (lanes.Psrl Word) h = refl
names-lanes false (lanes.Psrl Doubleword) h = refl
names-lanes false (lanes.Psrl Quadword) h = refl
names-lanes false (lanes.Psrl _) h = cc
names-lanes false (lanes.Psra Word) h = refl
names-lanes false (lanes.Psra Doubleword) h = refl
names-lanes false (lanes.Psra _) h = cc
names-lanes false (lanes.Pmins Word) h = refl
names-lanes false (lanes.Pmins _) h = cc
names-lanes false (lanes.Pmaxs Word) h = refl
names-lanes false (lanes.Pmaxs _) h = cc
names-lanes false (lanes.Pminu Byte) h = refl
names-lanes false (lanes.Pminu _) h = cc
names-lanes false (lanes.Pmaxu Byte) h = refl
names-lanes false (lanes.Pmaxu _) h = cc
names-lanes false (lanes.Pavg Byte) h = refl
names-lanes false (lanes.Pavg Word) h = refl
names-lanes false (lanes.Pavg _) h = cc
names-lanes false (lanes.Pabs l) h = cc

-- operations that move lanes

names-moves : (vex : Bool) (op : MoveOp) → has_move vex op ≡ true → Names vex (Moving op)
unfolding table_rows add_to_cltq cmova_to_cmovnc cmovne_to_cmovz cmp_to_lea mov_to_or packss_to_pop por_to_sar set_rows shl_to_test xor_rows vand_to_vpbroadcast vpcmp_to_vpmul vpor_to_vzeroupper Names
names-moves true moves.Pslldq h = refl
names-moves true moves.Psrldq h = refl
names-moves true (moves.Punpckl Byte) h = refl
names-moves true (moves.Punpckl _) h = refl
names-moves true (moves.Punpckh Byte) h = refl
names-moves true (moves.Punpckh _) h = refl
names-moves true moves.Pshufd h = refl
names-moves true moves.Pshuflw h = refl
names-moves true moves.Pshufhw h = refl
names-moves true (moves.Packss Word) h = refl
names-moves true (moves.Packss Doubleword) h = refl
names-moves true (moves.Packss _) h = cc
names-moves true moves.Packuswb h = refl
names-moves true moves.Movd h = refl
names-moves true moves.Movq h = refl
names-moves true moves.Movdqa h = refl
names-moves true moves.Movdqu h = refl
names-moves true moves.Movaps h = refl
names-moves true moves.Movups h = refl
names-moves true (moves.Pbroadcast Byte) h = refl
names-moves true (moves.Pbroadcast _) h = refl
names-moves true moves.Extracti128 h = refl
names-moves true moves.Inserti128 h = refl
names-moves true moves.Perm2i128 h = refl
names-moves true moves.Permq h = refl
names-moves true (moves.Pmovzx Byte Word) h = refl
names-moves true (moves.Pmovzx Byte Doubleword) h = refl
names-moves true (moves.Pmovzx Byte _) h = cc
names-moves true (moves.Pmovzx Word Doubleword) h = refl
names-moves true (moves.Pmovzx Word _) h = cc
names-moves true (moves.Pmovzx Doubleword Quadword) h = refl
names-moves true (moves.Pmovzx Doubleword _) h = cc
names-moves true (moves.Pmovzx Quadword m) h = cc
names-moves true (moves.Pmovsx Byte Word) h = refl
names-moves true (moves.Pmovsx Byte Doubleword) h = refl
names-moves true (moves.Pmovsx Byte _) h = cc
names-moves true (moves.Pmovsx Word Doubleword) h = refl
names-moves true (moves.Pmovsx Word _) h = cc
names-moves true (moves.Pmovsx Doubleword Quadword) h = refl
names-moves true (moves.Pmovsx Doubleword _) h = cc
names-moves true (moves.Pmovsx Quadword m) h = cc
names-moves false moves.Pslldq h = refl
names-moves false moves.Psrldq h = refl
names-moves false (moves.Punpckl Byte) h = refl
names-moves false (moves.Punpckl _) h = refl
names-moves false (moves.Punpckh Byte) h = refl
names-moves false (moves.Punpckh _) h = refl
names-moves false moves.Pshufd h = refl
names-moves false moves.Pshuflw h = refl
names-moves false moves.Pshufhw h = refl
names-moves false (moves.Packss Word) h = refl
names-moves false (moves.Packss Doubleword) h = refl
names-moves false (moves.Packss _) h = cc
names-moves false moves.Packuswb h = refl
names-moves false moves.Movd h = refl
names-moves false moves.Movq h = cc
names-moves false moves.Movdqa h = refl
names-moves false moves.Movdqu h = refl
names-moves false moves.Movaps h = refl
names-moves false moves.Movups h = refl
names-moves false (moves.Pbroadcast l) h = cc
names-moves false moves.Extracti128 h = cc
names-moves false moves.Inserti128 h = cc
names-moves false moves.Perm2i128 h = cc
names-moves false moves.Permq h = cc
names-moves false (moves.Pmovzx l m) h = cc
names-moves false (moves.Pmovsx l m) h = cc

-- An operation that mnemonics name is named by the one that is printed.
pub names-vector : (vex : Bool) (op : VectorOp) → has_vectors vex op ≡ true → Names vex op
unfolding table_rows add_to_cltq cmova_to_cmovnc cmovne_to_cmovz cmp_to_lea mov_to_or packss_to_pop por_to_sar set_rows shl_to_test xor_rows vand_to_vpbroadcast vpcmp_to_vpmul vpor_to_vzeroupper Names
names-vector vex (Lanewise op) h = names-lanes vex op h
names-vector vex (Moving op) h = names-moves vex op h
names-vector true Pmaddwd h = refl
names-vector false Pmaddwd h = refl
names-vector true Psadbw h = refl
names-vector false Psadbw h = refl
names-vector true Pmovmskb h = refl
names-vector false Pmovmskb h = refl
names-vector true Pshufb h = refl
names-vector false Pshufb h = cc
names-vector true Vzeroupper h = refl
names-vector false Vzeroupper h = cc

-- the move of quadwords is printed as the general one
pub quadword_named : named table_rows (mnemonic (Vector (Moving moves.Movq)) false 0) ≡ Some (general Mov 64)
unfolding table_rows add_to_cltq cmova_to_cmovnc cmovne_to_cmovz cmp_to_lea mov_to_or packss_to_pop por_to_sar set_rows shl_to_test xor_rows vand_to_vpbroadcast vpcmp_to_vpmul vpor_to_vzeroupper
quadword_named = refl
