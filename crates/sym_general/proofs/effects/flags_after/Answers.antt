use Rattle.std.proofs.Common.{[], ◌∷◌, ◌∙◌, ap}
use Rattle.sym_rows.specs.FlagExprs.{flag_rule}
use Rattle.sym_rows.specs.declared.operands.Flag.TheVariants as flags
use Rattle.sym_general.specs.Applied.{flag_by}
use Rattle.sym_general.proofs.effects.flags_after.Goals as goal

pub returns : goal.returns
returns c = λ w.
    let carry = c.flag_after-carry.ensures w ∙ ap (λ f. flag_by (flag_rule flags.Carry c.args.op w c.args.k) f c.args.new) c.flag_of.ensures in
    let parity = c.flag_after-parity.ensures w ∙ ap (λ f. flag_by (flag_rule flags.Parity c.args.op w c.args.k) f c.args.new) c.flag_of-2.ensures in
    let zero = c.flag_after-zero.ensures w ∙ ap (λ f. flag_by (flag_rule flags.Zero c.args.op w c.args.k) f c.args.new) c.flag_of-3.ensures in
    let sign = c.flag_after-sign.ensures w ∙ ap (λ f. flag_by (flag_rule flags.Sign c.args.op w c.args.k) f c.args.new) c.flag_of-4.ensures in
    let overflow = c.flag_after-overflow.ensures w ∙ ap (λ f. flag_by (flag_rule flags.Overflow c.args.op w c.args.k) f c.args.new) c.flag_of-5.ensures in
    λ t. carry t ∷ (parity t ∷ (zero t ∷ (sign t ∷ (overflow t ∷ []))))
