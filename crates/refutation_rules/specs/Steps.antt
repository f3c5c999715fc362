-- The six kinds of step: what each asks for, and what it adds.
use Rattle.std.specs.Prelude.{◌≡◌, ◌≢◌, ◌⊎◌, ℕ, ◌%◌, List, [], ◌∷◌, ◌++◌, Option, Some, None, IsTrue, ℤ}
use Rattle.clauses.specs.declared.clause.Lit.{Lit}
use Rattle.clause_gates.specs.Gates.{copy_gate, negation, positive}
use Rattle.clause_gates.specs.NormalForms.{normal_clauses}
use Rattle.clause_words.specs.Rows.{bit, columns}
use Rattle.node_values.specs.declared.node.NodeId.{NodeId}
use Rattle.node_values.specs.Nodes.{arguments}
use Rattle.node_values.specs.Sheets.{node_at, width_at}
use Rattle.duty_claims.specs.Needs.{side_of}
use Rattle.resolution_chains.specs.Chains.{IsChain, numbered}
use Rattle.refutations.specs.declared.step.Step.{Step}
use Rattle.refutations.specs.declared.step.Step.TheVariants.{Chain, Equal, Same, Holds, Fails, Both}
use Rattle.refutation_rules.specs.declared.equation.Equation.{Equation}
use Rattle.refutation_rules.specs.Known.{Known, Ground, are_equal}
use Rattle.refutation_rules.specs.Operators.{equation_in, operator_of}
use Rattle.refutation_rules.specs.Sums.{IsRest, multiple, multiple_less}

-- a node of the reach
abbrev pub IsInReach : Ground → NodeId → Type 0
IsInReach s i = IsTrue (s.is_in_reach i.0)

-- a node of the reach that is an equality, of w bits, with these arguments
pub record IsEquality (s : Ground) (i : NodeId) (w : ℕ) (p : Equation) : Type 0 where
  pub reach : IsInReach s i
  pub node : equation_in (node_at s.nodes i.0) ≡ Some p
  pub width : width_at s.nodes p.left.0 ≡ w

-- two nodes of one width are equal: the difference of their forms is the combination
pub record AreEqualBy (s : Ground) (k : Known) (i j : NodeId) (parts : List (ℕ × ℤ)) : Type 0 where
  pub left : IsInReach s i
  pub right : IsInReach s j
  pub width : width_at s.nodes i.0 ≡ width_at s.nodes j.0
  pub rest : IsRest s k (width_at s.nodes i.0) (multiple 1 (record { left = i; right = j })) parts 0

-- an equality is 1: the difference of its arguments is the combination
pub record IsTrueBy (s : Ground) (k : Known) (i : NodeId) (parts : List (ℕ × ℤ)) : Type 0 where
  pub w : ℕ
  pub equation : Equation
  pub is : IsEquality s i w equation
  pub rest : IsRest s k w (multiple 1 equation) parts 0

-- an equality is 0: the difference of its arguments is the combination and a constant other than 0
pub record IsFalseBy (s : Ground) (k : Known) (i : NodeId) (parts : List (ℕ × ℤ)) : Type 0 where
  pub w : ℕ
  pub equation : Equation
  pub constant : ℕ
  pub is : IsEquality s i w equation
  pub rest : IsRest s k w (multiple 1 equation) parts constant
  pub other : constant ≢ 0

-- two equalities of one width are equal: the difference of the first is an odd multiple of that of the second, and the
-- combination
pub record AreLinkedBy (s : Ground) (k : Known) (i j : NodeId) (unit : ℕ) (parts : List (ℕ × ℤ)) : Type 0 where
  pub w : ℕ
  pub first : Equation
  pub second : Equation
  pub is_first : IsEquality s i w first
  pub is_second : IsEquality s j w second
  pub odd : unit % 2 ≡ 1
  pub rest : IsRest s k w (multiple 1 first ++ multiple_less unit second) parts 0

-- arguments in the same places are equal, or known to be
abbrev pub HaveEqualArguments : Ground → Known → List ℕ → List ℕ → Type 0
HaveEqualArguments s k [] [] = Unit {0}
HaveEqualArguments s k (a ∷ xs) (b ∷ ys) = IsTrue (are_equal s k a b) × HaveEqualArguments s k xs ys
HaveEqualArguments s k xs ys = ⊥

-- the unit clause with a number says that a bit is 0
abbrev pub IsZeroBy : Known → ℕ → ℕ → Type 0
IsZeroBy k clause x = numbered k.clauses clause ≡ Some (negation (positive x) ∷ [])

-- the two sides of bytes of memory are one, and no clause is named; or a unit clause says that no scratch line has
-- their address
abbrev pub SidesMeet : Ground → Known → NodeId → NodeId → ℕ → Type 0
SidesMeet s k i j clause =
    ((side_of (node_at s.nodes i.0) ≡ side_of (node_at s.nodes j.0)) × (clause ≡ 0))
    ⊎ ((side_of (node_at s.nodes i.0) ≢ side_of (node_at s.nodes j.0))
    × ((scratch : ℕ) × (s.scratch_of i.0 j.0 ≡ Some scratch) × IsZeroBy k clause (s.first scratch)))

-- two nodes have one operator and equal arguments
pub record AreAlikeBy (s : Ground) (k : Known) (i j : NodeId) (clause : ℕ) : Type 0 where
  pub left : IsInReach s i
  pub right : IsInReach s j
  pub operator : operator_of (node_at s.nodes i.0) ≡ operator_of (node_at s.nodes j.0)
  pub arguments : HaveEqualArguments s k (arguments (node_at s.nodes i.0)) (arguments (node_at s.nodes j.0))
  pub sides : SidesMeet s k i j clause

-- A step is obeyed: it follows from what is known.
abbrev pub Obeys : Ground → Known → Step → Type 0
Obeys s k (Chain lits first next) = IsChain k.clauses lits first next
Obeys s k (Equal i j parts) = AreEqualBy s k i j parts
Obeys s k (Same i j clause) = AreAlikeBy s k i j clause
Obeys s k (Holds i parts) = IsTrueBy s k i parts
Obeys s k (Fails i parts) = IsFalseBy s k i parts
Obeys s k (Both i j unit parts) = AreLinkedBy s k i j unit parts

-- the clauses that each of w bits of one word is that of another one, in normal form: none for a word and itself
abbrev pub same_bits : ℕ → ℕ → ℕ → List (List Lit)
same_bits w r a = normal_clauses (columns (λ k. copy_gate (bit r k) (bit a k)) w)

-- the clauses that a step adds
abbrev pub added_clauses : Ground → Step → List (List Lit)
added_clauses s (Chain lits first next) = lits ∷ []
added_clauses s (Equal i j parts) = same_bits (width_at s.nodes i.0) (s.first i.0) (s.first j.0)
added_clauses s (Same i j clause) = same_bits (width_at s.nodes i.0) (s.first i.0) (s.first j.0)
added_clauses s (Holds i parts) = (positive (s.first i.0) ∷ []) ∷ []
added_clauses s (Fails i parts) = (negation (positive (s.first i.0)) ∷ []) ∷ []
added_clauses s (Both i j unit parts) = same_bits 1 (s.first i.0) (s.first j.0)

-- the equation that a step gives
abbrev pub given_equation : Step → Option Equation
given_equation (Equal i j parts) = Some (record { left = i; right = j })
given_equation (Same i j clause) = Some (record { left = i; right = j })
given_equation step = None

-- what is known after a step
abbrev pub after : Ground → Known → Step → Known
after s k step = record { clauses = k.clauses ++ added_clauses s step; gave = k.gave ++ given_equation step ∷ [] }
