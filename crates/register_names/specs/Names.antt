-- The names of registers, by width and number.
use Rattle.std.specs.Prelude.{◌≡◌, ◌⊎◌, ℕ, ◌==◌, if◌then◌else◌, List, [], ◌∷◌, ◌++◌, Some, codes, slice_get}

-- the registers of w bits, by number: general ones of up to 64 bits, vectors of 128 and 256
abbrev pub register_names : ℕ → List (List ℕ)
register_names w =
    if w == 64 then
    codes "rax" ∷ codes "rcx" ∷ codes "rdx" ∷ codes "rbx" ∷ codes "rsp" ∷ codes "rbp" ∷ codes "rsi" ∷ codes "rdi"
    ∷ codes "r8" ∷ codes "r9" ∷ codes "r10" ∷ codes "r11"
    ∷ codes "r12" ∷ codes "r13" ∷ codes "r14" ∷ codes "r15" ∷ []
    else if w == 32 then
    codes "eax" ∷ codes "ecx" ∷ codes "edx" ∷ codes "ebx" ∷ codes "esp" ∷ codes "ebp" ∷ codes "esi" ∷ codes "edi"
    ∷ codes "r8d" ∷ codes "r9d" ∷ codes "r10d" ∷ codes "r11d"
    ∷ codes "r12d" ∷ codes "r13d" ∷ codes "r14d" ∷ codes "r15d" ∷ []
    else if w == 16 then
    codes "ax" ∷ codes "cx" ∷ codes "dx" ∷ codes "bx" ∷ codes "sp" ∷ codes "bp" ∷ codes "si" ∷ codes "di"
    ∷ codes "r8w" ∷ codes "r9w" ∷ codes "r10w" ∷ codes "r11w"
    ∷ codes "r12w" ∷ codes "r13w" ∷ codes "r14w" ∷ codes "r15w" ∷ []
    else if w == 8 then
    codes "al" ∷ codes "cl" ∷ codes "dl" ∷ codes "bl" ∷ codes "spl" ∷ codes "bpl" ∷ codes "sil" ∷ codes "dil"
    ∷ codes "r8b" ∷ codes "r9b" ∷ codes "r10b" ∷ codes "r11b"
    ∷ codes "r12b" ∷ codes "r13b" ∷ codes "r14b" ∷ codes "r15b" ∷ []
    else if w == 128 then
    codes "xmm0" ∷ codes "xmm1" ∷ codes "xmm2" ∷ codes "xmm3" ∷ codes "xmm4" ∷ codes "xmm5" ∷ codes "xmm6" ∷ codes "xmm7"
    ∷ codes "xmm8" ∷ codes "xmm9" ∷ codes "xmm10" ∷ codes "xmm11" ∷ codes "xmm12" ∷ codes "xmm13"
    ∷ codes "xmm14" ∷ codes "xmm15" ∷ []
    else if w == 256 then
    codes "ymm0" ∷ codes "ymm1" ∷ codes "ymm2" ∷ codes "ymm3" ∷ codes "ymm4" ∷ codes "ymm5" ∷ codes "ymm6" ∷ codes "ymm7"
    ∷ codes "ymm8" ∷ codes "ymm9" ∷ codes "ymm10" ∷ codes "ymm11" ∷ codes "ymm12" ∷ codes "ymm13"
    ∷ codes "ymm14" ∷ codes "ymm15" ∷ []
    else []

-- the widths of registers that have names
abbrev pub IsNamedWidth : ℕ → Type 0
IsNamedWidth w = (w ≡ 64) ⊎ ((w ≡ 32) ⊎ ((w ≡ 16) ⊎ ((w ≡ 8) ⊎ ((w ≡ 128) ⊎ (w ≡ 256)))))

-- register n of w bits has this name
abbrev pub IsRegisterName : List ℕ → ℕ → ℕ → Type 0
IsRegisterName name w n = slice_get (register_names w) n ≡ Some name

-- `%` and the name of register n of w bits
pub record IsRegisterText (text : List ℕ) (n w : ℕ) : Type 0 where
  pub name : List ℕ
  pub known : IsRegisterName name w n
  pub spelled : text ≡ codes "%" ++ name
