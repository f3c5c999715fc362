-- The mnemonic that is printed of an operation: of those that spell it, the one with its suffix and the first name of its
-- condition.
use Rattle.std.specs.Prelude.{ℕ, ◌==◌, Bool, List, [], ◌++◌, codes, if◌then◌else◌}
use Rattle.insn_ops.specs.declared.op.Cond.{Cond}
use Rattle.insn_ops.specs.declared.op.Cond.TheVariants.{E, Ne, B, Ae, Be, A, L, Ge, Le, G, S, Ns, O, No, P, Np}
use Rattle.insn_ops.specs.declared.op.Op.{Op}
use Rattle.insn_ops.specs.declared.op.Op.TheVariants.{Mov, Movabs, Add, Sub, Cmp, Test, And, Or, Xor, Inc, Dec, Neg, Not, Shl, Shr, Sar, Imul, Lea, Movzx, Movsx, Cltq, Cmov, Set, Jump, Jmp, Push, Pop, Ret, Nop, Endbr64, Vector}
use Rattle.insn_mnemonics.specs.VectorMnemonics.{vector_middle, vector_stem}

-- the letter of a width
abbrev pub suffix : ℕ → List ℕ
suffix w =
    if w == 8 then codes "b"
    else if w == 16 then codes "w"
    else if w == 32 then codes "l"
    else if w == 64 then codes "q"
    else []

-- the first name of a condition
abbrev pub condition_name : Cond → List ℕ
condition_name E = codes "e"
condition_name Ne = codes "ne"
condition_name B = codes "b"
condition_name Ae = codes "ae"
condition_name Be = codes "be"
condition_name A = codes "a"
condition_name L = codes "l"
condition_name Ge = codes "ge"
condition_name Le = codes "le"
condition_name G = codes "g"
condition_name S = codes "s"
condition_name Ns = codes "ns"
condition_name O = codes "o"
condition_name No = codes "no"
condition_name P = codes "p"
condition_name Np = codes "np"

-- what a mnemonic begins with
abbrev pub stem : Op → List ℕ
stem Mov = codes "mov"
stem Movabs = codes "movabs"
stem Add = codes "add"
stem Sub = codes "sub"
stem Cmp = codes "cmp"
stem Test = codes "test"
stem And = codes "and"
stem Or = codes "or"
stem Xor = codes "xor"
stem Inc = codes "inc"
stem Dec = codes "dec"
stem Neg = codes "neg"
stem Not = codes "not"
stem Shl = codes "shl"
stem Shr = codes "shr"
stem Sar = codes "sar"
stem Imul = codes "imul"
stem Lea = codes "lea"
stem (Movzx from) = codes "movz"
stem (Movsx from) = codes "movs"
stem Cltq = codes "cltq"
stem (Cmov condition) = codes "cmov"
stem (Set condition) = codes "set"
stem (Jump condition) = codes "j"
stem Jmp = codes "jmp"
stem Push = codes "push"
stem Pop = codes "pop"
stem Ret = codes "ret"
stem Nop = codes "nop"
stem Endbr64 = codes "endbr64"
stem (Vector op) = vector_stem op

-- what stands between stem and suffix: the name of a condition, the letter of the source's width, or the letters of lanes
abbrev pub middle : Op → List ℕ
middle (Cmov condition) = condition_name condition
middle (Set condition) = condition_name condition
middle (Jump condition) = condition_name condition
middle (Movzx from) = suffix from
middle (Movsx from) = suffix from
middle (Vector op) = vector_middle op
middle _ = []

-- the suffix, where the operation's mnemonics have one
abbrev pub ending : Op → ℕ → List ℕ
ending Cltq w = []
ending (Set condition) w = []
ending (Jump condition) w = []
ending Jmp w = []
ending Ret w = []
ending Nop w = []
ending Endbr64 w = []
ending (Vector op) w = []
ending _ w = suffix w

-- what stands before the stem of a mnemonic with VEX
abbrev pub prefix : Bool → List ℕ
prefix vex = if vex then codes "v" else []

-- the mnemonic of an operation of w bits, with VEX or without
abbrev pub mnemonic : Op → Bool → ℕ → List ℕ
mnemonic op vex w = prefix vex ++ (stem op ++ (middle op ++ ending op w))
