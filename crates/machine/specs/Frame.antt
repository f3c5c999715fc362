-- What a step leaves as it was: the entry registers, the regions and the stack range always, each vector register that the
-- instruction does not write, and each byte of the memory that may not be written.
use Rattle.std.specs.Prelude.{◌≡◌, ◌⊎◌, ℕ, Bool, true, false, ◌&&◌, ◌||◌, ◌==◌, nat_lt, slice_get}
use Rattle.std.specs.List.{list_any}
use Rattle.insn_table.specs.declared.insn.Insn.{Insn}
use Rattle.insn_table.specs.declared.insn.Operand.{Operand}
use Rattle.insn_table.specs.declared.insn.Operand.TheVariants.{Vec}
use Rattle.machine.specs.declared.operands.Family.{Family}
use Rattle.machine.specs.declared.operands.Family.TheVariants.{Clearing, OnVectors}
use Rattle.memory_spans.specs.declared.region.Region.{Region}
use Rattle.machine.specs.Family.{family_of}
use Rattle.machine.specs.Machine.{Machine, stack_base}
use Rattle.memory_spans.specs.Memory.{offset_from}
use Rattle.machine.specs.Vectors.{last_operand}

-- the entry registers, the regions and the stack range
pub record SameFrame (s t : Machine) : Type 0 where
  pub entry : t.entry ≡ s.entry
  pub regions : t.regions ≡ s.regions
  pub stack : t.stack ≡ s.stack

-- the operand is vector register n
abbrev pub is_vector : ℕ → Operand → Bool
is_vector n (Vec r w) = r == n
is_vector n _ = false

-- an instruction of this family may write vector register n
abbrev pub changes_vector : Family → ℕ → Insn → Bool
changes_vector OnVectors n i = is_vector n (last_operand i)
changes_vector Clearing n i = true
changes_vector _ n i = false

-- the instruction may write vector register n: it is its last operand, and `vzeroupper` writes them all
abbrev pub writes_vector : ℕ → Insn → Bool
writes_vector n i = changes_vector (family_of i.op) n i

-- vector register n is as it was
abbrev pub SameVector : ℕ → Machine → Machine → Type 0
SameVector n s t = slice_get t.vecs n ≡ slice_get s.vecs n

-- the address lies in the region
abbrev pub has_address : ℕ → Region → Bool
has_address at r = nat_lt (offset_from r.base at) r.len

-- the address lies in a region that may be written, or among the declared stack bytes
abbrev pub is_writable : Machine → ℕ → Bool
is_writable s at =
    list_any (λ r. r.write && has_address at r) s.regions || nat_lt (offset_from (stack_base s) at) s.stack

-- the byte at the address may be written
abbrev pub IsWritable : Machine → ℕ → Type 0
IsWritable s at = is_writable s at ≡ true

-- each byte of the memory is as it was, or may be written
abbrev pub SameUnwritable : Machine → Machine → Type 0
SameUnwritable s t = (at : ℕ) → (t.memory at ≡ s.memory at) ⊎ IsWritable s at
