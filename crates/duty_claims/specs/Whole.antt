-- Whole duties: what their clauses are made of is there.
use Rattle.std.specs.Prelude.{◌≡◌, ◌≢◌, ◌⊎◌, ℕ, ◌<◌, List, length, map, MatchOption, IsTrue}
use Rattle.std.specs.List.{AllByRecursion}
use Rattle.insn_semantics.specs.Words as words
use Rattle.node_values.specs.declared.node.Node.{Node}
use Rattle.node_values.specs.declared.node.NodeId.{NodeId}
use Rattle.node_values.specs.Sheets.{node_at, value_at, width_at}
use Rattle.node_values.specs.Values.{Environment}
use Rattle.duty_claims.specs.declared.duty.Duty.{Duty}
use Rattle.duty_claims.specs.declared.duty.StartPair.{StartPair}
use Rattle.duty_claims.specs.Needs.{Needs, address_of, each_two, is_start, side_of, start_nodes}
use Rattle.duty_claims.specs.Truth.{IsOutsideLines}

-- a node of the sheet that has this many bits
abbrev pub IsNodeOf : List Node → ℕ → NodeId → Type 0
IsNodeOf ns w node = (node.0 < length ns) × (width_at ns node.0 ≡ w)

-- a node needs no byte of memory but those that the addresses of bytes m and n need
abbrev pub NeedsOnlyOf : List Node → ℕ → ℕ → NodeId → Type 0
NeedsOnlyOf ns m n node = (k : ℕ) → IsTrue (is_start (node_at ns k)) → Needs ns node.0 k
    → Needs ns (address_of (node_at ns m)) k ⊎ Needs ns (address_of (node_at ns n)) k

-- a node that says whether bytes m and n have one address
pub record IsSameAt (ns : List Node) (m n : ℕ) (node : NodeId) : Type 0 where
  pub is : IsNodeOf ns 1 node
  pub value : (e : Environment) → value_at e ns node.0
      ≡ words.equal (value_at e ns (address_of (node_at ns m))) (value_at e ns (address_of (node_at ns n)))
  pub needs : NeedsOnlyOf ns m n node

-- a node that says whether the address of byte m lies in a scratch line
pub record IsInLines (ns : List Node) (lines : List (NodeId × NodeId)) (m n : ℕ) (node : NodeId) : Type 0 where
  pub is : IsNodeOf ns 1 node
  pub outside : (e : Environment) → value_at e ns node.0 ≡ 0
      → IsOutsideLines e ns lines (value_at e ns (address_of (node_at ns m)))
  pub inside : (e : Environment) → IsOutsideLines e ns lines (value_at e ns (address_of (node_at ns m)))
      → value_at e ns node.0 ≡ 0
  pub needs : NeedsOnlyOf ns m n node

-- What a pair of bytes has: a node that says whether their addresses are equal, and where their sides differ, and
-- nowhere else, one that says whether the address lies in a scratch line.
pub record IsWholePair (ns : List Node) (lines : List (NodeId × NodeId)) (p : StartPair) : Type 0 where
  pub same_at : IsSameAt ns p.m.0 p.n.0 p.same_at
  pub scratch : MatchOption p.scratch (side_of (node_at ns p.m.0) ≡ side_of (node_at ns p.n.0))
      (λ node. (side_of (node_at ns p.m.0) ≢ side_of (node_at ns p.n.0)) × IsInLines ns lines p.m.0 p.n.0 node)

-- a scratch line: base and length are addresses that need no byte of memory
pub record IsLine (ns : List Node) (line : NodeId × NodeId) : Type 0 where
  pub base : IsNodeOf ns 64 line.0
  pub len : IsNodeOf ns 64 line.1
  pub needs : (k : ℕ) → Needs ns line.0.0 k ⊎ Needs ns line.1.0 k → IsTrue (is_start (node_at ns k)) → ⊥

-- A duty is whole where its hypotheses and goals are nodes of one bit of its sheet, its pairs are each two bytes of
-- memory of the sheet in order, each with its nodes, and its scratch lines need no byte of memory.
pub record IsWhole (d : Duty) : Type 0 where
  pub hypotheses : AllByRecursion (IsNodeOf d.sheet.now 1) d.hyps.now
  pub goal : IsNodeOf d.sheet.now 1 d.goal
  pub more : AllByRecursion (IsNodeOf d.sheet.now 1) d.more.now
  pub each_two : map (λ p. (p.m.0, p.n.0)) d.pairs.now ≡ each_two (start_nodes d.sheet.now)
  pub pairs : AllByRecursion (IsWholePair d.sheet.now d.scratch.now) d.pairs.now
  pub scratch : AllByRecursion (IsLine d.sheet.now) d.scratch.now
