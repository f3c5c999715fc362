-- The rows of the mnemonics without VEX, general ones and those of vectors, in byte order of the mnemonics. The width of a
-- general row is 0 where the suffix is left out, and 64 where the form has no width; vectors are of 128 bits. A new row
-- takes a line here and one in src/legacy_rows.rt.
use Rattle.std.specs.Prelude.{List, [], ◌∷◌, codes}
use Rattle.insn_ops.specs.declared.op.Cond.TheVariants.{E, Ne, B, Ae, Be, A, L, Ge, Le, G, S, Ns, O, No, P, Np}
use Rattle.insn_ops.specs.declared.op.Op.TheVariants.{Mov, Movabs, Add, Sub, Cmp, Test, And, Or, Xor, Inc, Dec, Neg, Not, Shl, Shr, Sar, Imul, Lea, Movzx, Movsx, Cltq, Cmov, Set, Jump, Jmp, Push, Pop, Ret, Nop, Endbr64}
use Rattle.insn_ops.specs.declared.vector_op.LaneWidth.TheVariants.{Byte, Word, Doubleword, Quadword}
use Rattle.insn_ops.specs.declared.vector_op.LaneOp.TheVariants.{Padd, Psub, Padds, Psubs, Paddus, Psubus, Pand, Pandn, Por, Pxor, Pcmpeq, Pcmpgt, Pmull, Pmulhw, Pmulhuw, Pmuludq, Psll, Psrl, Psra, Pmins, Pmaxs, Pminu, Pmaxu, Pavg}
use Rattle.insn_ops.specs.declared.vector_op.MoveOp.TheVariants.{Pslldq, Psrldq, Punpckl, Punpckh, Pshufd, Pshuflw, Pshufhw, Packss, Packuswb, Movd, Movdqa, Movdqu, Movaps, Movups}
use Rattle.insn_ops.specs.declared.vector_op.VectorOp.TheVariants.{Lanewise, Moving, Pmaddwd, Psadbw, Pmovmskb}
use Rattle.insn_spellings.specs.Rows.{Row, row, vector_row}

-- the rows from add to cltq, with andps
unfoldable pub add_to_cltq : List Row
add_to_cltq =
    row (codes "addb") Add 8 ∷
    row (codes "addl") Add 32 ∷
    row (codes "addq") Add 64 ∷
    row (codes "addw") Add 16 ∷
    row (codes "andb") And 8 ∷
    row (codes "andl") And 32 ∷
    vector_row (codes "andnps") (Lanewise Pandn) ∷
    vector_row (codes "andps") (Lanewise Pand) ∷
    row (codes "andq") And 64 ∷
    row (codes "andw") And 16 ∷
    row (codes "cltq") Cltq 64 ∷
    []

-- the rows of cmovCC, from a to nc
unfoldable pub cmova_to_cmovnc : List Row
cmova_to_cmovnc =
    row (codes "cmova") (Cmov A) 0 ∷
    row (codes "cmovae") (Cmov Ae) 0 ∷
    row (codes "cmovael") (Cmov Ae) 32 ∷
    row (codes "cmovaeq") (Cmov Ae) 64 ∷
    row (codes "cmovaew") (Cmov Ae) 16 ∷
    row (codes "cmoval") (Cmov A) 32 ∷
    row (codes "cmovaq") (Cmov A) 64 ∷
    row (codes "cmovaw") (Cmov A) 16 ∷
    row (codes "cmovb") (Cmov B) 0 ∷
    row (codes "cmovbe") (Cmov Be) 0 ∷
    row (codes "cmovbel") (Cmov Be) 32 ∷
    row (codes "cmovbeq") (Cmov Be) 64 ∷
    row (codes "cmovbew") (Cmov Be) 16 ∷
    row (codes "cmovbl") (Cmov B) 32 ∷
    row (codes "cmovbq") (Cmov B) 64 ∷
    row (codes "cmovbw") (Cmov B) 16 ∷
    row (codes "cmovc") (Cmov B) 0 ∷
    row (codes "cmovcl") (Cmov B) 32 ∷
    row (codes "cmovcq") (Cmov B) 64 ∷
    row (codes "cmovcw") (Cmov B) 16 ∷
    row (codes "cmove") (Cmov E) 0 ∷
    row (codes "cmovel") (Cmov E) 32 ∷
    row (codes "cmoveq") (Cmov E) 64 ∷
    row (codes "cmovew") (Cmov E) 16 ∷
    row (codes "cmovg") (Cmov G) 0 ∷
    row (codes "cmovge") (Cmov Ge) 0 ∷
    row (codes "cmovgel") (Cmov Ge) 32 ∷
    row (codes "cmovgeq") (Cmov Ge) 64 ∷
    row (codes "cmovgew") (Cmov Ge) 16 ∷
    row (codes "cmovgl") (Cmov G) 32 ∷
    row (codes "cmovgq") (Cmov G) 64 ∷
    row (codes "cmovgw") (Cmov G) 16 ∷
    row (codes "cmovl") (Cmov L) 0 ∷
    row (codes "cmovle") (Cmov Le) 0 ∷
    row (codes "cmovlel") (Cmov Le) 32 ∷
    row (codes "cmovleq") (Cmov Le) 64 ∷
    row (codes "cmovlew") (Cmov Le) 16 ∷
    row (codes "cmovll") (Cmov L) 32 ∷
    row (codes "cmovlq") (Cmov L) 64 ∷
    row (codes "cmovlw") (Cmov L) 16 ∷
    row (codes "cmovna") (Cmov Be) 0 ∷
    row (codes "cmovnae") (Cmov B) 0 ∷
    row (codes "cmovnael") (Cmov B) 32 ∷
    row (codes "cmovnaeq") (Cmov B) 64 ∷
    row (codes "cmovnaew") (Cmov B) 16 ∷
    row (codes "cmovnal") (Cmov Be) 32 ∷
    row (codes "cmovnaq") (Cmov Be) 64 ∷
    row (codes "cmovnaw") (Cmov Be) 16 ∷
    row (codes "cmovnb") (Cmov Ae) 0 ∷
    row (codes "cmovnbe") (Cmov A) 0 ∷
    row (codes "cmovnbel") (Cmov A) 32 ∷
    row (codes "cmovnbeq") (Cmov A) 64 ∷
    row (codes "cmovnbew") (Cmov A) 16 ∷
    row (codes "cmovnbl") (Cmov Ae) 32 ∷
    row (codes "cmovnbq") (Cmov Ae) 64 ∷
    row (codes "cmovnbw") (Cmov Ae) 16 ∷
    row (codes "cmovnc") (Cmov Ae) 0 ∷
    row (codes "cmovncl") (Cmov Ae) 32 ∷
    row (codes "cmovncq") (Cmov Ae) 64 ∷
    row (codes "cmovncw") (Cmov Ae) 16 ∷
    []

-- the rows of cmovCC, from ne to z
unfoldable pub cmovne_to_cmovz : List Row
cmovne_to_cmovz =
    row (codes "cmovne") (Cmov Ne) 0 ∷
    row (codes "cmovnel") (Cmov Ne) 32 ∷
    row (codes "cmovneq") (Cmov Ne) 64 ∷
    row (codes "cmovnew") (Cmov Ne) 16 ∷
    row (codes "cmovng") (Cmov Le) 0 ∷
    row (codes "cmovnge") (Cmov L) 0 ∷
    row (codes "cmovngel") (Cmov L) 32 ∷
    row (codes "cmovngeq") (Cmov L) 64 ∷
    row (codes "cmovngew") (Cmov L) 16 ∷
    row (codes "cmovngl") (Cmov Le) 32 ∷
    row (codes "cmovngq") (Cmov Le) 64 ∷
    row (codes "cmovngw") (Cmov Le) 16 ∷
    row (codes "cmovnl") (Cmov Ge) 0 ∷
    row (codes "cmovnle") (Cmov G) 0 ∷
    row (codes "cmovnlel") (Cmov G) 32 ∷
    row (codes "cmovnleq") (Cmov G) 64 ∷
    row (codes "cmovnlew") (Cmov G) 16 ∷
    row (codes "cmovnll") (Cmov Ge) 32 ∷
    row (codes "cmovnlq") (Cmov Ge) 64 ∷
    row (codes "cmovnlw") (Cmov Ge) 16 ∷
    row (codes "cmovno") (Cmov No) 0 ∷
    row (codes "cmovnol") (Cmov No) 32 ∷
    row (codes "cmovnoq") (Cmov No) 64 ∷
    row (codes "cmovnow") (Cmov No) 16 ∷
    row (codes "cmovnp") (Cmov Np) 0 ∷
    row (codes "cmovnpl") (Cmov Np) 32 ∷
    row (codes "cmovnpq") (Cmov Np) 64 ∷
    row (codes "cmovnpw") (Cmov Np) 16 ∷
    row (codes "cmovns") (Cmov Ns) 0 ∷
    row (codes "cmovnsl") (Cmov Ns) 32 ∷
    row (codes "cmovnsq") (Cmov Ns) 64 ∷
    row (codes "cmovnsw") (Cmov Ns) 16 ∷
    row (codes "cmovnz") (Cmov Ne) 0 ∷
    row (codes "cmovnzl") (Cmov Ne) 32 ∷
    row (codes "cmovnzq") (Cmov Ne) 64 ∷
    row (codes "cmovnzw") (Cmov Ne) 16 ∷
    row (codes "cmovo") (Cmov O) 0 ∷
    row (codes "cmovol") (Cmov O) 32 ∷
    row (codes "cmovoq") (Cmov O) 64 ∷
    row (codes "cmovow") (Cmov O) 16 ∷
    row (codes "cmovp") (Cmov P) 0 ∷
    row (codes "cmovpe") (Cmov P) 0 ∷
    row (codes "cmovpel") (Cmov P) 32 ∷
    row (codes "cmovpeq") (Cmov P) 64 ∷
    row (codes "cmovpew") (Cmov P) 16 ∷
    row (codes "cmovpl") (Cmov P) 32 ∷
    row (codes "cmovpo") (Cmov Np) 0 ∷
    row (codes "cmovpol") (Cmov Np) 32 ∷
    row (codes "cmovpoq") (Cmov Np) 64 ∷
    row (codes "cmovpow") (Cmov Np) 16 ∷
    row (codes "cmovpq") (Cmov P) 64 ∷
    row (codes "cmovpw") (Cmov P) 16 ∷
    row (codes "cmovs") (Cmov S) 0 ∷
    row (codes "cmovsl") (Cmov S) 32 ∷
    row (codes "cmovsq") (Cmov S) 64 ∷
    row (codes "cmovsw") (Cmov S) 16 ∷
    row (codes "cmovz") (Cmov E) 0 ∷
    row (codes "cmovzl") (Cmov E) 32 ∷
    row (codes "cmovzq") (Cmov E) 64 ∷
    row (codes "cmovzw") (Cmov E) 16 ∷
    []

-- the rows from cmp to lea, with jCC and jmp
unfoldable pub cmp_to_lea : List Row
cmp_to_lea =
    row (codes "cmpb") Cmp 8 ∷
    row (codes "cmpl") Cmp 32 ∷
    row (codes "cmpq") Cmp 64 ∷
    row (codes "cmpw") Cmp 16 ∷
    row (codes "decb") Dec 8 ∷
    row (codes "decl") Dec 32 ∷
    row (codes "decq") Dec 64 ∷
    row (codes "decw") Dec 16 ∷
    row (codes "endbr64") Endbr64 64 ∷
    row (codes "imull") Imul 32 ∷
    row (codes "imulq") Imul 64 ∷
    row (codes "imulw") Imul 16 ∷
    row (codes "incb") Inc 8 ∷
    row (codes "incl") Inc 32 ∷
    row (codes "incq") Inc 64 ∷
    row (codes "incw") Inc 16 ∷
    row (codes "ja") (Jump A) 64 ∷
    row (codes "jae") (Jump Ae) 64 ∷
    row (codes "jb") (Jump B) 64 ∷
    row (codes "jbe") (Jump Be) 64 ∷
    row (codes "jc") (Jump B) 64 ∷
    row (codes "je") (Jump E) 64 ∷
    row (codes "jg") (Jump G) 64 ∷
    row (codes "jge") (Jump Ge) 64 ∷
    row (codes "jl") (Jump L) 64 ∷
    row (codes "jle") (Jump Le) 64 ∷
    row (codes "jmp") Jmp 64 ∷
    row (codes "jna") (Jump Be) 64 ∷
    row (codes "jnae") (Jump B) 64 ∷
    row (codes "jnb") (Jump Ae) 64 ∷
    row (codes "jnbe") (Jump A) 64 ∷
    row (codes "jnc") (Jump Ae) 64 ∷
    row (codes "jne") (Jump Ne) 64 ∷
    row (codes "jng") (Jump Le) 64 ∷
    row (codes "jnge") (Jump L) 64 ∷
    row (codes "jnl") (Jump Ge) 64 ∷
    row (codes "jnle") (Jump G) 64 ∷
    row (codes "jno") (Jump No) 64 ∷
    row (codes "jnp") (Jump Np) 64 ∷
    row (codes "jns") (Jump Ns) 64 ∷
    row (codes "jnz") (Jump Ne) 64 ∷
    row (codes "jo") (Jump O) 64 ∷
    row (codes "jp") (Jump P) 64 ∷
    row (codes "jpe") (Jump P) 64 ∷
    row (codes "jpo") (Jump Np) 64 ∷
    row (codes "js") (Jump S) 64 ∷
    row (codes "jz") (Jump E) 64 ∷
    row (codes "leal") Lea 32 ∷
    row (codes "leaq") Lea 64 ∷
    []

-- the rows from mov to or, with those of copied vectors
unfoldable pub mov_to_or : List Row
mov_to_or =
    row (codes "movabsq") Movabs 64 ∷
    vector_row (codes "movaps") (Moving Movaps) ∷
    row (codes "movb") Mov 8 ∷
    vector_row (codes "movd") (Moving Movd) ∷
    vector_row (codes "movdqa") (Moving Movdqa) ∷
    vector_row (codes "movdqu") (Moving Movdqu) ∷
    row (codes "movl") Mov 32 ∷
    row (codes "movq") Mov 64 ∷
    row (codes "movsbl") (Movsx 8) 32 ∷
    row (codes "movsbq") (Movsx 8) 64 ∷
    row (codes "movsbw") (Movsx 8) 16 ∷
    row (codes "movslq") (Movsx 32) 64 ∷
    row (codes "movswl") (Movsx 16) 32 ∷
    row (codes "movswq") (Movsx 16) 64 ∷
    vector_row (codes "movups") (Moving Movups) ∷
    row (codes "movw") Mov 16 ∷
    row (codes "movzbl") (Movzx 8) 32 ∷
    row (codes "movzbq") (Movzx 8) 64 ∷
    row (codes "movzbw") (Movzx 8) 16 ∷
    row (codes "movzwl") (Movzx 16) 32 ∷
    row (codes "movzwq") (Movzx 16) 64 ∷
    row (codes "negb") Neg 8 ∷
    row (codes "negl") Neg 32 ∷
    row (codes "negq") Neg 64 ∷
    row (codes "negw") Neg 16 ∷
    row (codes "nop") Nop 64 ∷
    row (codes "notb") Not 8 ∷
    row (codes "notl") Not 32 ∷
    row (codes "notq") Not 64 ∷
    row (codes "notw") Not 16 ∷
    row (codes "orb") Or 8 ∷
    row (codes "orl") Or 32 ∷
    vector_row (codes "orps") (Lanewise Por) ∷
    row (codes "orq") Or 64 ∷
    row (codes "orw") Or 16 ∷
    []

-- the rows from packss to pop
unfoldable pub packss_to_pop : List Row
packss_to_pop =
    vector_row (codes "packssdw") (Moving (Packss Doubleword)) ∷
    vector_row (codes "packsswb") (Moving (Packss Word)) ∷
    vector_row (codes "packuswb") (Moving Packuswb) ∷
    vector_row (codes "paddb") (Lanewise (Padd Byte)) ∷
    vector_row (codes "paddd") (Lanewise (Padd Doubleword)) ∷
    vector_row (codes "paddq") (Lanewise (Padd Quadword)) ∷
    vector_row (codes "paddsb") (Lanewise (Padds Byte)) ∷
    vector_row (codes "paddsw") (Lanewise (Padds Word)) ∷
    vector_row (codes "paddusb") (Lanewise (Paddus Byte)) ∷
    vector_row (codes "paddusw") (Lanewise (Paddus Word)) ∷
    vector_row (codes "paddw") (Lanewise (Padd Word)) ∷
    vector_row (codes "pand") (Lanewise Pand) ∷
    vector_row (codes "pandn") (Lanewise Pandn) ∷
    vector_row (codes "pavgb") (Lanewise (Pavg Byte)) ∷
    vector_row (codes "pavgw") (Lanewise (Pavg Word)) ∷
    vector_row (codes "pcmpeqb") (Lanewise (Pcmpeq Byte)) ∷
    vector_row (codes "pcmpeqd") (Lanewise (Pcmpeq Doubleword)) ∷
    vector_row (codes "pcmpeqw") (Lanewise (Pcmpeq Word)) ∷
    vector_row (codes "pcmpgtb") (Lanewise (Pcmpgt Byte)) ∷
    vector_row (codes "pcmpgtd") (Lanewise (Pcmpgt Doubleword)) ∷
    vector_row (codes "pcmpgtw") (Lanewise (Pcmpgt Word)) ∷
    vector_row (codes "pmaddwd") Pmaddwd ∷
    vector_row (codes "pmaxsw") (Lanewise (Pmaxs Word)) ∷
    vector_row (codes "pmaxub") (Lanewise (Pmaxu Byte)) ∷
    vector_row (codes "pminsw") (Lanewise (Pmins Word)) ∷
    vector_row (codes "pminub") (Lanewise (Pminu Byte)) ∷
    vector_row (codes "pmovmskb") Pmovmskb ∷
    vector_row (codes "pmulhuw") (Lanewise Pmulhuw) ∷
    vector_row (codes "pmulhw") (Lanewise Pmulhw) ∷
    vector_row (codes "pmullw") (Lanewise (Pmull Word)) ∷
    vector_row (codes "pmuludq") (Lanewise Pmuludq) ∷
    row (codes "popq") Pop 64 ∷
    []

-- the rows from por to sar
unfoldable pub por_to_sar : List Row
por_to_sar =
    vector_row (codes "por") (Lanewise Por) ∷
    vector_row (codes "psadbw") Psadbw ∷
    vector_row (codes "pshufd") (Moving Pshufd) ∷
    vector_row (codes "pshufhw") (Moving Pshufhw) ∷
    vector_row (codes "pshuflw") (Moving Pshuflw) ∷
    vector_row (codes "pslld") (Lanewise (Psll Doubleword)) ∷
    vector_row (codes "pslldq") (Moving Pslldq) ∷
    vector_row (codes "psllq") (Lanewise (Psll Quadword)) ∷
    vector_row (codes "psllw") (Lanewise (Psll Word)) ∷
    vector_row (codes "psrad") (Lanewise (Psra Doubleword)) ∷
    vector_row (codes "psraw") (Lanewise (Psra Word)) ∷
    vector_row (codes "psrld") (Lanewise (Psrl Doubleword)) ∷
    vector_row (codes "psrldq") (Moving Psrldq) ∷
    vector_row (codes "psrlq") (Lanewise (Psrl Quadword)) ∷
    vector_row (codes "psrlw") (Lanewise (Psrl Word)) ∷
    vector_row (codes "psubb") (Lanewise (Psub Byte)) ∷
    vector_row (codes "psubd") (Lanewise (Psub Doubleword)) ∷
    vector_row (codes "psubq") (Lanewise (Psub Quadword)) ∷
    vector_row (codes "psubsb") (Lanewise (Psubs Byte)) ∷
    vector_row (codes "psubsw") (Lanewise (Psubs Word)) ∷
    vector_row (codes "psubusb") (Lanewise (Psubus Byte)) ∷
    vector_row (codes "psubusw") (Lanewise (Psubus Word)) ∷
    vector_row (codes "psubw") (Lanewise (Psub Word)) ∷
    vector_row (codes "punpckhbw") (Moving (Punpckh Byte)) ∷
    vector_row (codes "punpckhdq") (Moving (Punpckh Doubleword)) ∷
    vector_row (codes "punpckhqdq") (Moving (Punpckh Quadword)) ∷
    vector_row (codes "punpckhwd") (Moving (Punpckh Word)) ∷
    vector_row (codes "punpcklbw") (Moving (Punpckl Byte)) ∷
    vector_row (codes "punpckldq") (Moving (Punpckl Doubleword)) ∷
    vector_row (codes "punpcklqdq") (Moving (Punpckl Quadword)) ∷
    vector_row (codes "punpcklwd") (Moving (Punpckl Word)) ∷
    row (codes "pushq") Push 64 ∷
    vector_row (codes "pxor") (Lanewise Pxor) ∷
    row (codes "ret") Ret 64 ∷
    row (codes "retq") Ret 64 ∷
    row (codes "salb") Shl 8 ∷
    row (codes "sall") Shl 32 ∷
    row (codes "salq") Shl 64 ∷
    row (codes "salw") Shl 16 ∷
    row (codes "sarb") Sar 8 ∷
    row (codes "sarl") Sar 32 ∷
    row (codes "sarq") Sar 64 ∷
    row (codes "sarw") Sar 16 ∷
    []

-- the rows of setCC
unfoldable pub set_rows : List Row
set_rows =
    row (codes "seta") (Set A) 8 ∷
    row (codes "setae") (Set Ae) 8 ∷
    row (codes "setb") (Set B) 8 ∷
    row (codes "setbe") (Set Be) 8 ∷
    row (codes "setc") (Set B) 8 ∷
    row (codes "sete") (Set E) 8 ∷
    row (codes "setg") (Set G) 8 ∷
    row (codes "setge") (Set Ge) 8 ∷
    row (codes "setl") (Set L) 8 ∷
    row (codes "setle") (Set Le) 8 ∷
    row (codes "setna") (Set Be) 8 ∷
    row (codes "setnae") (Set B) 8 ∷
    row (codes "setnb") (Set Ae) 8 ∷
    row (codes "setnbe") (Set A) 8 ∷
    row (codes "setnc") (Set Ae) 8 ∷
    row (codes "setne") (Set Ne) 8 ∷
    row (codes "setng") (Set Le) 8 ∷
    row (codes "setnge") (Set L) 8 ∷
    row (codes "setnl") (Set Ge) 8 ∷
    row (codes "setnle") (Set G) 8 ∷
    row (codes "setno") (Set No) 8 ∷
    row (codes "setnp") (Set Np) 8 ∷
    row (codes "setns") (Set Ns) 8 ∷
    row (codes "setnz") (Set Ne) 8 ∷
    row (codes "seto") (Set O) 8 ∷
    row (codes "setp") (Set P) 8 ∷
    row (codes "setpe") (Set P) 8 ∷
    row (codes "setpo") (Set Np) 8 ∷
    row (codes "sets") (Set S) 8 ∷
    row (codes "setz") (Set E) 8 ∷
    []

-- the rows from shl to test
unfoldable pub shl_to_test : List Row
shl_to_test =
    row (codes "shlb") Shl 8 ∷
    row (codes "shll") Shl 32 ∷
    row (codes "shlq") Shl 64 ∷
    row (codes "shlw") Shl 16 ∷
    row (codes "shrb") Shr 8 ∷
    row (codes "shrl") Shr 32 ∷
    row (codes "shrq") Shr 64 ∷
    row (codes "shrw") Shr 16 ∷
    row (codes "subb") Sub 8 ∷
    row (codes "subl") Sub 32 ∷
    row (codes "subq") Sub 64 ∷
    row (codes "subw") Sub 16 ∷
    row (codes "testb") Test 8 ∷
    row (codes "testl") Test 32 ∷
    row (codes "testq") Test 64 ∷
    row (codes "testw") Test 16 ∷
    []

-- the rows of xor
unfoldable pub xor_rows : List Row
xor_rows =
    row (codes "xorb") Xor 8 ∷
    row (codes "xorl") Xor 32 ∷
    vector_row (codes "xorps") (Lanewise Pxor) ∷
    row (codes "xorq") Xor 64 ∷
    row (codes "xorw") Xor 16 ∷
    []
