use Rattle.std.proofs.Common.{sym, ◌∙◌, ap, subst}
use Rattle.node_values.specs.Sheets.{IsSheet}
use Rattle.terms.specs.Made.{made}
use Rattle.terms.proofs.MadeLaws.{IsBuilt, made_built}
use Rattle.terms.proofs.sheet.Sheet.build.Goals as goal

built : (c : goal.In_ok-id) → IsBuilt c.args.self.now c.args.node (record { nodes = c.build_in.new.nodes.keys; id = c.in_ok-id.id })
built c =
    let sheet : IsSheet c.args.self.now = subst IsSheet c.self.view_is c.self.invariant.sheet in
    subst (IsBuilt c.args.self.now c.args.node) (ap (λ ns. made ns c.args.node) (sym c.self.view_is) ∙ c.in_ok-id.ensures.made)
    (made_built c.args.self.now sheet c.args.node c.requires)

pub returns-clause-value : goal.returns-clause-value
returns-clause-value c e = (built c).value e

pub returns-clause-width : goal.returns-clause-width
returns-clause-width c = (built c).width

pub returns-clause-inside : goal.returns-clause-inside
returns-clause-inside c = (built c).inside

pub returns-clause-extends : goal.returns-clause-extends
returns-clause-extends c = (built c).extends
