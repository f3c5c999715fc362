-- What is read in an environment: the newest byte that was written at an address, else the byte of the start.
use Rattle.std.specs.Prelude.{◌≡◌, ℕ, ◌+◌, ◌%◌, ◌^◌, ◌<◌, ◌==◌, List, [], ◌∷◌, Option, Some, None, if◌then◌else◌, reverse}
use Rattle.std.specs.List.{AllByRecursion}
use Rattle.node_values.specs.declared.node.Node.{Node}
use Rattle.node_values.specs.Sheets.{value_at}
use Rattle.node_values.specs.Values.{Environment}
use Rattle.duty_claims.specs.declared.duty.Fixed.{Fixed}
use Rattle.duty_claims.specs.declared.duty.Relation.{Relation}
use Rattle.sym_memory.specs.declared.written.Written.{Written}
use Rattle.sym_memory.specs.Writes.{PathMemory, is_same_byte, relation_of}

-- byte b of an access at an address
abbrev pub address_of_byte : ℕ → ℕ → ℕ
address_of_byte at b = (at + b) % 2 ^ 64

-- the address of a written byte
abbrev pub written_address : (ℕ → ℕ) → Written → ℕ
written_address values w = address_of_byte (values w.at.0) w.byte

-- the newest byte at an address, of written bytes that stand newest first, else the byte of the start
abbrev pub newest_byte : (ℕ → ℕ) → (ℕ → ℕ) → List Written → ℕ → ℕ
newest_byte values start [] x = start x
newest_byte values start (w ∷ older) x =
    if x == written_address values w then values w.value.0 else newest_byte values start older x

-- the byte of a path's memory at an address, in an environment
abbrev pub memory_byte : Environment → List Node → PathMemory → ℕ → ℕ
memory_byte e ns m = newest_byte (value_at e ns) (λ x. e.memory m.side x % 2 ^ 8) (reverse m.written)

-- a fixed relation says what the addresses are: byte b of the access that reads, at x, is this written byte exactly
-- where they are equal
abbrev pub Tells : (ℕ → ℕ) → ℕ → ℕ → Written → Option Relation → Type 0
Tells values b x w None = Unit {0}
Tells values b x w (Some relation) = is_same_byte relation b w.byte ≡ (x == written_address values w)

-- the relations that are fixed for an access hold of its byte b, which lies at x
abbrev pub TellsByte : (ℕ → ℕ) → List Fixed → ℕ → List Written → ℕ → ℕ → Type 0
TellsByte values fixed access ws b x = AllByRecursion (λ w. Tells values b x w (relation_of fixed w.access access)) ws

-- they hold of each of its n bytes
abbrev pub HoldFor : (ℕ → ℕ) → List Fixed → ℕ → PathMemory → ℕ → ℕ → Type 0
HoldFor values fixed access m at n = (b : ℕ) → b < n → TellsByte values fixed access (reverse m.written) b (address_of_byte at b)
