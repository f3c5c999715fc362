-- The environment that an `Env` describes.
use Rattle.std.specs.Prelude.{ℕ, ◌==◌, List, [], ◌∷◌, slice_index, slice_index_or, if◌then◌else◌}
use Rattle.insn_ops.specs.declared.side.Side.{Side}
use Rattle.insn_ops.specs.declared.side.Side.TheVariants.{Left, Right}
use Rattle.node_values.specs.declared.env.Both.{Both}
use Rattle.node_values.specs.declared.env.Env.{Env}
use Rattle.node_values.specs.Values.{Environment}

-- a side's value of two
abbrev pub of_side : {A : Type 0} → Both A → Side → A
of_side both Left = both.left
of_side both Right = both.right

-- the byte that is listed first at an address, 0 where none is
abbrev pub first_byte : List (ℕ × ℕ) → ℕ → ℕ
first_byte [] address = 0
first_byte (b ∷ bs) address = if b.0 == address then b.1 else first_byte bs address

-- what an environment's lists say of both sides; what they do not list is 0
abbrev pub environment_of : Env → Environment
environment_of env = record {
  regs = λ side. slice_index (of_side env.regs side);
  entry = slice_index env.entry;
  vecs = λ side r. slice_index (slice_index_or (of_side env.vecs side) r (record { bytes = [] })).bytes;
  memory = λ side. first_byte (of_side env.mem side);
  probe = env.probe;
}
