-- What becomes of a flag by its rule.
use Rattle.insn_semantics.specs.FlagRules.{Rule, Keeps, Unsets, Sets}
use Rattle.sym_general.specs.declared.effects.Effect.{Effect}
use Rattle.sym_general.specs.declared.effects.Effect.TheVariants as effects

-- the rule without its expression
abbrev pub effect_of : Rule → Effect
effect_of Keeps = effects.Keeps
effect_of Unsets = effects.Unsets
effect_of (Sets x) = effects.Sets
