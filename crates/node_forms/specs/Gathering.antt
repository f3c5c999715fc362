-- How a form is gathered: the highest pending node is replaced by what it is made from, until all are atoms.
use Rattle.std.specs.Prelude.{ℕ, ◌+◌, ◌*◌, ◌%◌, ◌^◌, ◌<◌, ◌≤◌, List, [], ◌∷◌, ◌++◌, length}
use Rattle.std.specs.List.{AllByRecursion}
use Rattle.insn_semantics.specs.Words.{plus, minus, times}
use Rattle.node_values.specs.declared.node.Node.{Node}
use Rattle.node_values.specs.declared.node.NodeId.{NodeId}
use Rattle.node_values.specs.Sheets.{width_at}
use Rattle.node_forms.specs.declared.linear.Linear.{Linear}
use Rattle.node_forms.specs.declared.linear.Linear.TheVariants.{Atom, Number, Times, Plus, Minus}
use Rattle.node_forms.specs.Sums.{AreAtoms, AreFalling, AreRising, IsLinear, IsWide, SameWord, top_of, weighted_sum, with_weight}

-- nodes still to be replaced by rising numbers, atoms by falling numbers, and the constant so far
pub record Gathering : Type 0 where
  pub pending : List (NodeId × ℕ)
  pub atoms : List (NodeId × ℕ)
  pub constant : ℕ

-- q times node i, which is made so, goes to the parts
abbrev pub replaced : ℕ → NodeId → ℕ → Linear → Gathering → Gathering
replaced w i q Atom s = record { pending = s.pending; atoms = s.atoms ++ (i, q) ∷ []; constant = s.constant }
replaced w i q (Number v) s =
    record { pending = s.pending; atoms = s.atoms; constant = plus w s.constant (times w q (v % 2 ^ w)) }
replaced w i q (Times a v) s =
    record { pending = with_weight w a (times w q (v % 2 ^ w)) s.pending; atoms = s.atoms; constant = s.constant }
replaced w i q (Plus a b) s =
    record { pending = with_weight w b q (with_weight w a q s.pending); atoms = s.atoms; constant = s.constant }
replaced w i q (Minus a b) s =
    record { pending = with_weight w b (minus w 0 q) (with_weight w a q s.pending); atoms = s.atoms; constant = s.constant }

-- parts of a sum at w: nodes of the list with as many bits, and coefficients below 2^w
abbrev pub AreParts : List Node → ℕ → List (NodeId × ℕ) → Type 0
AreParts ns w = AllByRecursion (λ p. IsWide (width_at ns) w (length ns) p.0 × (p.1 < 2 ^ w))

-- what there is so far is, together, the sum of the parts that it began with
pub record IsGathering (ns : List Node) (w : ℕ) (parts : List (NodeId × ℕ)) (s : Gathering) : Type 0 where
  pub pending : AreParts ns w s.pending
  pub rising : AreRising 0 s.pending
  pub above : AllByRecursion (λ p. top_of s.pending ≤ p.0.0) s.atoms
  pub falling : AreFalling (length ns) s.atoms
  pub atoms : AreAtoms ns w s.atoms
  pub constant : s.constant < 2 ^ w
  pub sum : (k : ℕ) (f : ℕ → ℕ) → IsLinear ns w k f
      → SameWord w (weighted_sum f s.pending + (weighted_sum f s.atoms + k * s.constant)) (weighted_sum f parts)
