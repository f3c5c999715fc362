-- A sheet of one byte of each side's memory, at one address.
use Rattle.std.specs.Prelude.{◌≡◌, ℕ, List, [], ◌∷◌}
use Rattle.insn_ops.specs.declared.side.Side.TheVariants.{Left, Right}
use Rattle.node_values.specs.declared.node.Node.{Node}
use Rattle.node_values.specs.declared.node.Node.TheVariants.{Const, Probe, Start, Eq}
use Rattle.node_values.specs.declared.node.NodeId.{NodeId}
use Rattle.duty_claims.specs.declared.duty.Duty.{Duty}

-- the node of this number
abbrev pub id : ℕ → NodeId
id n = record { 0 = n }

-- the number 1, an address, the bytes of both sides there, and that these are equal
abbrev pub bytes_sheet : List Node
bytes_sheet = Const 64 1 ∷ Probe ∷ Start Left (id 1) ∷ Start Right (id 1) ∷ Eq (id 2) (id 3) ∷ []

-- a duty over this sheet, to show that the bytes are equal, with these scratch lines
pub record IsBytesDuty (d : Duty) (lines : List (NodeId × NodeId)) : Type 0 where
  pub sheet : d.sheet.now ≡ bytes_sheet
  pub hyps : d.hyps.now ≡ []
  pub goal : d.goal ≡ id 4
  pub more : d.more.now ≡ []
  pub scratch : d.scratch.now ≡ lines
