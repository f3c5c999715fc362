-- The reach of a duty: the nodes that its clauses speak of.
use Rattle.std.specs.Prelude.{ℕ, ◌&&◌, Bool, List, [], ◌∷◌, ◌++◌, Option, Some, None, MatchOption}
use Rattle.std.specs.List.{filter, flat_map}
use Rattle.node_values.specs.declared.node.NodeId.{NodeId}
use Rattle.node_reach.specs.Reached.{is_needed}
use Rattle.duty_claims.specs.declared.duty.Duty.{Duty}
use Rattle.duty_claims.specs.declared.duty.StartPair.{StartPair}

-- the nodes that a duty says something of: its hypotheses, its goal and its further goals
abbrev pub named_nodes : Duty → List NodeId
named_nodes d = d.hyps.now ++ (d.goal ∷ d.more.now)

-- whether the named nodes need both bytes of a pair
abbrev pub is_pair_needed : Duty → StartPair → Bool
is_pair_needed d p = is_needed d.sheet.now (named_nodes d) p.m.0 && is_needed d.sheet.now (named_nodes d) p.n.0

-- each two bytes of memory that the named nodes need, in the order of the duty's pairs
abbrev pub needed_pairs : Duty → List StartPair
needed_pairs d = filter (is_pair_needed d) d.pairs.now

-- a node that may be there, as a list
abbrev pub if_there : Option NodeId → List NodeId
if_there None = []
if_there (Some node) = node ∷ []

-- the nodes of a pair: that the addresses are equal, and where the sides differ, that a scratch line has the address
abbrev pub pair_nodes : StartPair → List NodeId
pair_nodes p = p.same_at ∷ if_there p.scratch

-- the nodes whose needs make up the reach
abbrev pub reach_roots : Duty → List NodeId
reach_roots d = named_nodes d ++ flat_map pair_nodes (needed_pairs d)

-- whether node k is in the reach: the named nodes need it, or a node of a pair of bytes that they need does
abbrev pub is_in_reach : Duty → ℕ → Bool
is_in_reach d k = is_needed d.sheet.now (reach_roots d) k

-- a fact of each node of a pair, and of its bytes
pub record IsPairAmong (P : NodeId → Type 0) (p : StartPair) : Type 0 where
  pub m : P p.m
  pub n : P p.n
  pub same_at : P p.same_at
  pub scratch : MatchOption p.scratch (Unit {0}) P
