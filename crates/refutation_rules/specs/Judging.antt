-- Which steps are accepted, and else which one breaks.
use Rattle.std.specs.Prelude.{◌≡◌, ◌⊎◌, ℕ, ◌+◌, Bool, true, false, List, [], ◌∷◌, IsTrue}
use Rattle.refutations.specs.declared.step.Step.{Step}
use Rattle.refutations.specs.declared.step.Step.TheVariants.{Chain}
use Rattle.refutation_rules.specs.Known.{Known, Ground}
use Rattle.refutation_rules.specs.Steps.{Obeys, after}

-- whether a step is a chain that ends with no literals
abbrev pub is_end : Step → Bool
is_end (Chain [] first next) = true
is_end step = false

-- Steps are accepted where each is obeyed and the last one ends with no literals. (`ended` tells this of the step
-- before them.)
unfoldable pub AreAccepted : Ground → Known → Bool → List Step → Type 0
AreAccepted s k ended [] = IsTrue ended
AreAccepted s k ended (step ∷ steps) = Obeys s k step × AreAccepted s (after s k step) (is_end step) steps

-- The first step that is not obeyed has number i, where the first of these has number n. Or each is obeyed, the last one
-- does not end with no literals, and i is one past it.
unfoldable pub BreakAt : Ground → Known → Bool → ℕ → List Step → ℕ → Type 0
BreakAt s k ended n [] i = (ended ≡ false) × (i ≡ n)
BreakAt s k ended n (step ∷ steps) i =
    ((Obeys s k step → ⊥) × (i ≡ n)) ⊎ (Obeys s k step × BreakAt s (after s k step) (is_end step) (n + 1) steps i)
