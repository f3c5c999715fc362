-- The rows of the mnemonics with VEX, in byte order. The width of their vectors, 128 or 256 bits, is that of the operands, but
-- for vzeroupper, which has none. A new row takes a line here and one in src/vex_rows.rt.
use Rattle.std.specs.Prelude.{List, [], ◌∷◌, codes}
use Rattle.insn_ops.specs.declared.vector_op.LaneWidth.TheVariants.{Byte, Word, Doubleword, Quadword}
use Rattle.insn_ops.specs.declared.vector_op.LaneOp.TheVariants.{Padd, Psub, Padds, Psubs, Paddus, Psubus, Pand, Pandn, Por, Pxor, Pcmpeq, Pcmpgt, Pmull, Pmulhw, Pmulhuw, Pmuludq, Psll, Psrl, Psra, Pmins, Pmaxs, Pminu, Pmaxu, Pavg, Pabs}
use Rattle.insn_ops.specs.declared.vector_op.MoveOp.TheVariants.{Pslldq, Psrldq, Punpckl, Punpckh, Pshufd, Pshuflw, Pshufhw, Packss, Packuswb, Movd, Movq, Movdqa, Movdqu, Movaps, Movups, Pbroadcast, Extracti128, Inserti128, Perm2i128, Permq, Pmovzx, Pmovsx}
use Rattle.insn_ops.specs.declared.vector_op.VectorOp.TheVariants.{Lanewise, Moving, Pmaddwd, Psadbw, Pshufb, Pmovmskb, Vzeroupper}
use Rattle.insn_spellings.specs.Rows.{Row, vex_row, upper_row}

-- the rows from vand to vpbroadcast
unfoldable pub vand_to_vpbroadcast : List Row
vand_to_vpbroadcast =
    vex_row (codes "vandnps") (Lanewise Pandn) ∷
    vex_row (codes "vandps") (Lanewise Pand) ∷
    vex_row (codes "vextracti128") (Moving Extracti128) ∷
    vex_row (codes "vinserti128") (Moving Inserti128) ∷
    vex_row (codes "vmovaps") (Moving Movaps) ∷
    vex_row (codes "vmovd") (Moving Movd) ∷
    vex_row (codes "vmovdqa") (Moving Movdqa) ∷
    vex_row (codes "vmovdqu") (Moving Movdqu) ∷
    vex_row (codes "vmovq") (Moving Movq) ∷
    vex_row (codes "vmovups") (Moving Movups) ∷
    vex_row (codes "vorps") (Lanewise Por) ∷
    vex_row (codes "vpabsb") (Lanewise (Pabs Byte)) ∷
    vex_row (codes "vpabsd") (Lanewise (Pabs Doubleword)) ∷
    vex_row (codes "vpabsw") (Lanewise (Pabs Word)) ∷
    vex_row (codes "vpackssdw") (Moving (Packss Doubleword)) ∷
    vex_row (codes "vpacksswb") (Moving (Packss Word)) ∷
    vex_row (codes "vpackuswb") (Moving Packuswb) ∷
    vex_row (codes "vpaddb") (Lanewise (Padd Byte)) ∷
    vex_row (codes "vpaddd") (Lanewise (Padd Doubleword)) ∷
    vex_row (codes "vpaddq") (Lanewise (Padd Quadword)) ∷
    vex_row (codes "vpaddsb") (Lanewise (Padds Byte)) ∷
    vex_row (codes "vpaddsw") (Lanewise (Padds Word)) ∷
    vex_row (codes "vpaddusb") (Lanewise (Paddus Byte)) ∷
    vex_row (codes "vpaddusw") (Lanewise (Paddus Word)) ∷
    vex_row (codes "vpaddw") (Lanewise (Padd Word)) ∷
    vex_row (codes "vpand") (Lanewise Pand) ∷
    vex_row (codes "vpandn") (Lanewise Pandn) ∷
    vex_row (codes "vpavgb") (Lanewise (Pavg Byte)) ∷
    vex_row (codes "vpavgw") (Lanewise (Pavg Word)) ∷
    vex_row (codes "vpbroadcastb") (Moving (Pbroadcast Byte)) ∷
    vex_row (codes "vpbroadcastd") (Moving (Pbroadcast Doubleword)) ∷
    vex_row (codes "vpbroadcastq") (Moving (Pbroadcast Quadword)) ∷
    vex_row (codes "vpbroadcastw") (Moving (Pbroadcast Word)) ∷
    []

-- the rows from vpcmp to vpmul
unfoldable pub vpcmp_to_vpmul : List Row
vpcmp_to_vpmul =
    vex_row (codes "vpcmpeqb") (Lanewise (Pcmpeq Byte)) ∷
    vex_row (codes "vpcmpeqd") (Lanewise (Pcmpeq Doubleword)) ∷
    vex_row (codes "vpcmpeqw") (Lanewise (Pcmpeq Word)) ∷
    vex_row (codes "vpcmpgtb") (Lanewise (Pcmpgt Byte)) ∷
    vex_row (codes "vpcmpgtd") (Lanewise (Pcmpgt Doubleword)) ∷
    vex_row (codes "vpcmpgtw") (Lanewise (Pcmpgt Word)) ∷
    vex_row (codes "vperm2i128") (Moving Perm2i128) ∷
    vex_row (codes "vpermq") (Moving Permq) ∷
    vex_row (codes "vpmaddwd") Pmaddwd ∷
    vex_row (codes "vpmaxsb") (Lanewise (Pmaxs Byte)) ∷
    vex_row (codes "vpmaxsd") (Lanewise (Pmaxs Doubleword)) ∷
    vex_row (codes "vpmaxsw") (Lanewise (Pmaxs Word)) ∷
    vex_row (codes "vpmaxub") (Lanewise (Pmaxu Byte)) ∷
    vex_row (codes "vpmaxud") (Lanewise (Pmaxu Doubleword)) ∷
    vex_row (codes "vpmaxuw") (Lanewise (Pmaxu Word)) ∷
    vex_row (codes "vpminsb") (Lanewise (Pmins Byte)) ∷
    vex_row (codes "vpminsd") (Lanewise (Pmins Doubleword)) ∷
    vex_row (codes "vpminsw") (Lanewise (Pmins Word)) ∷
    vex_row (codes "vpminub") (Lanewise (Pminu Byte)) ∷
    vex_row (codes "vpminud") (Lanewise (Pminu Doubleword)) ∷
    vex_row (codes "vpminuw") (Lanewise (Pminu Word)) ∷
    vex_row (codes "vpmovmskb") Pmovmskb ∷
    vex_row (codes "vpmovsxbd") (Moving (Pmovsx Byte Doubleword)) ∷
    vex_row (codes "vpmovsxbw") (Moving (Pmovsx Byte Word)) ∷
    vex_row (codes "vpmovsxdq") (Moving (Pmovsx Doubleword Quadword)) ∷
    vex_row (codes "vpmovsxwd") (Moving (Pmovsx Word Doubleword)) ∷
    vex_row (codes "vpmovzxbd") (Moving (Pmovzx Byte Doubleword)) ∷
    vex_row (codes "vpmovzxbw") (Moving (Pmovzx Byte Word)) ∷
    vex_row (codes "vpmovzxdq") (Moving (Pmovzx Doubleword Quadword)) ∷
    vex_row (codes "vpmovzxwd") (Moving (Pmovzx Word Doubleword)) ∷
    vex_row (codes "vpmulhuw") (Lanewise Pmulhuw) ∷
    vex_row (codes "vpmulhw") (Lanewise Pmulhw) ∷
    vex_row (codes "vpmulld") (Lanewise (Pmull Doubleword)) ∷
    vex_row (codes "vpmullw") (Lanewise (Pmull Word)) ∷
    vex_row (codes "vpmuludq") (Lanewise Pmuludq) ∷
    []

-- the rows from vpor to vzeroupper
unfoldable pub vpor_to_vzeroupper : List Row
vpor_to_vzeroupper =
    vex_row (codes "vpor") (Lanewise Por) ∷
    vex_row (codes "vpsadbw") Psadbw ∷
    vex_row (codes "vpshufb") Pshufb ∷
    vex_row (codes "vpshufd") (Moving Pshufd) ∷
    vex_row (codes "vpshufhw") (Moving Pshufhw) ∷
    vex_row (codes "vpshuflw") (Moving Pshuflw) ∷
    vex_row (codes "vpslld") (Lanewise (Psll Doubleword)) ∷
    vex_row (codes "vpslldq") (Moving Pslldq) ∷
    vex_row (codes "vpsllq") (Lanewise (Psll Quadword)) ∷
    vex_row (codes "vpsllw") (Lanewise (Psll Word)) ∷
    vex_row (codes "vpsrad") (Lanewise (Psra Doubleword)) ∷
    vex_row (codes "vpsraw") (Lanewise (Psra Word)) ∷
    vex_row (codes "vpsrld") (Lanewise (Psrl Doubleword)) ∷
    vex_row (codes "vpsrldq") (Moving Psrldq) ∷
    vex_row (codes "vpsrlq") (Lanewise (Psrl Quadword)) ∷
    vex_row (codes "vpsrlw") (Lanewise (Psrl Word)) ∷
    vex_row (codes "vpsubb") (Lanewise (Psub Byte)) ∷
    vex_row (codes "vpsubd") (Lanewise (Psub Doubleword)) ∷
    vex_row (codes "vpsubq") (Lanewise (Psub Quadword)) ∷
    vex_row (codes "vpsubsb") (Lanewise (Psubs Byte)) ∷
    vex_row (codes "vpsubsw") (Lanewise (Psubs Word)) ∷
    vex_row (codes "vpsubusb") (Lanewise (Psubus Byte)) ∷
    vex_row (codes "vpsubusw") (Lanewise (Psubus Word)) ∷
    vex_row (codes "vpsubw") (Lanewise (Psub Word)) ∷
    vex_row (codes "vpunpckhbw") (Moving (Punpckh Byte)) ∷
    vex_row (codes "vpunpckhdq") (Moving (Punpckh Doubleword)) ∷
    vex_row (codes "vpunpckhqdq") (Moving (Punpckh Quadword)) ∷
    vex_row (codes "vpunpckhwd") (Moving (Punpckh Word)) ∷
    vex_row (codes "vpunpcklbw") (Moving (Punpckl Byte)) ∷
    vex_row (codes "vpunpckldq") (Moving (Punpckl Doubleword)) ∷
    vex_row (codes "vpunpcklqdq") (Moving (Punpckl Quadword)) ∷
    vex_row (codes "vpunpcklwd") (Moving (Punpckl Word)) ∷
    vex_row (codes "vpxor") (Lanewise Pxor) ∷
    vex_row (codes "vxorps") (Lanewise Pxor) ∷
    upper_row (codes "vzeroupper") Vzeroupper ∷
    []
