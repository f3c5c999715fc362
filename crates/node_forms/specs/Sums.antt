-- Sums of multiples of nodes' values, and forms as lists of such multiples.
use Rattle.std.specs.Prelude.{◌≡◌, ℕ, ◌+◌, ◌*◌, ◌%◌, ◌^◌, ◌<◌, ◌≤◌, ◌==◌, List, [], ◌∷◌, if◌then◌else◌, length, max, nat_lt}
use Rattle.std.specs.List.{AllByRecursion}
use Rattle.node_values.specs.declared.node.Node.{Node}
use Rattle.insn_semantics.specs.Words.{plus}
use Rattle.node_values.specs.declared.node.NodeId.{NodeId}
use Rattle.node_values.specs.Sheets.{node_at, width_at}
use Rattle.node_forms.specs.declared.linear.Linear.{Linear}
use Rattle.node_forms.specs.declared.linear.Linear.TheVariants.{Atom, Number, Times, Plus, Minus}
use Rattle.node_forms.specs.Linearity.{linearity}

-- the sum of what f gives to nodes, each times its coefficient
abbrev pub weighted_sum : (ℕ → ℕ) → List (NodeId × ℕ) → ℕ
weighted_sum f [] = 0
weighted_sum f (p ∷ ps) = p.1 * f p.0.0 + weighted_sum f ps

-- the coefficient of an atom, 0 where it is not listed
abbrev pub listed_coefficient : List (NodeId × ℕ) → ℕ → ℕ
listed_coefficient [] atom = 0
listed_coefficient (p ∷ ps) atom = if atom == p.0.0 then p.1 else listed_coefficient ps atom

-- the list by rising numbers with q added to the coefficient of a node
abbrev pub with_weight : ℕ → NodeId → ℕ → List (NodeId × ℕ) → List (NodeId × ℕ)
with_weight w a q [] = (a, q) ∷ []
with_weight w a q (p ∷ ps) =
    if a.0 == p.0.0 then (p.0, plus w p.1 q) ∷ ps
    else (if nat_lt a.0 p.0.0 then (a, q) ∷ p ∷ ps else p ∷ with_weight w a q ps)

-- nodes by rising numbers, none below `low`
abbrev pub AreRising : ℕ → List (NodeId × ℕ) → Type 0
AreRising low [] = Unit {0}
AreRising low (p ∷ ps) = (low ≤ p.0.0) × AreRising (p.0.0 + 1) ps

-- the least number above all of these
abbrev pub top_of : List (NodeId × ℕ) → ℕ
top_of [] = 0
top_of (p ∷ ps) = max (p.0.0 + 1) (top_of ps)

-- nodes by falling numbers, all below `end`
abbrev pub AreFalling : ℕ → List (NodeId × ℕ) → Type 0
AreFalling end [] = Unit {0}
AreFalling end (p ∷ ps) = (p.0.0 < end) × AreFalling p.0.0 ps

-- atoms of a list of nodes at w: each an atom of as many bits, with a coefficient from 1 below 2^w
abbrev pub AreAtoms : List Node → ℕ → List (NodeId × ℕ) → Type 0
AreAtoms ns w =
    AllByRecursion
    (λ p. (p.0.0 < length ns) × (w ≤ width_at ns p.0.0)
    × (linearity ns (width_at ns) w (node_at ns p.0.0) ≡ Atom) × (0 < p.1) × (p.1 < 2 ^ w))

-- one of the first n nodes that has w bits or more
abbrev pub IsWide : (ℕ → ℕ) → ℕ → ℕ → NodeId → Type 0
IsWide widths w n a = (a.0 < n) × (w ≤ widths a.0)

-- x and y are the same modulo 2^w
abbrev pub SameWord : ℕ → ℕ → ℕ → Type 0
SameWord w x y = x % 2 ^ w ≡ y % 2 ^ w

-- what f gives to node i comes, modulo 2^w, from what it gives to the arguments as the node's bits do from theirs,
-- where a constant counts k times
abbrev pub Follows : ℕ → ℕ → (ℕ → ℕ) → ℕ → Linear → Type 0
Follows w k f i Atom = Unit {0}
Follows w k f i (Number v) = SameWord w (f i) (k * v)
Follows w k f i (Times a c) = SameWord w (f i) (c * f a.0)
Follows w k f i (Plus a b) = SameWord w (f i) (f a.0 + f b.0)
Follows w k f i (Minus a b) = SameWord w (f i + f b.0) (f a.0)

-- the words of all nodes of at least w bits follow from those of their arguments
abbrev pub IsLinear : List Node → ℕ → ℕ → (ℕ → ℕ) → Type 0
IsLinear ns w k f = (i : ℕ) → i < length ns → w ≤ width_at ns i → Follows w k f i (linearity ns (width_at ns) w (node_at ns i))
