use Rattle.std.proofs.Common.{refl, sym, ◌∙◌, subst}
use Rattle.resolution_chains.proofs.Chaining.{chain_of_marks, listed_below, marks_of_chain}
use Rattle.resolution_chains.proofs.Marking.{none_some, some_same}
use Rattle.resolution_chains.specs.Marks.{IsClean}
use Rattle.resolution_chains.proofs.chain.is_chain.Goals as goal

pub returns-then-cancel-clause-value : goal.returns-then-cancel-clause-value
returns-then-cancel-clause-value c = (
  λ h. chain_of_marks c.args.clauses.now c.requires.ordered c.args.marks.now c.requires.clean c.requires.room c.args.lits.now
      c.args.first c.args.next.now c.cancel.new.marks (c.if-not-is_in_order.ensures.0 refl) c.if-cancel.ensures.marks (c.is_clean.ensures.0 h),
  λ chain.
      let n = marks_of_chain c.args.clauses.now c.requires.ordered c.args.marks.now c.requires.clean c.requires.room c.args.lits.now
      c.args.first c.args.next.now chain in
      c.is_clean.ensures.1 (subst IsClean (sym (some_same c.cancel.new.marks n.0 (sym c.if-cancel.ensures.marks ∙ n.1))) n.2),
)

pub returns-then-cancel-clause-room : goal.returns-then-cancel-clause-room
returns-then-cancel-clause-room c = λ h. listed_below c.args.clauses.now c.requires.ordered c.args.marks.now c.requires.clean
    c.requires.room c.args.lits.now c.args.first c.args.next.now c.cancel.new.marks c.if-cancel.ensures.marks

pub returns-else-cancel-clause-value : goal.returns-else-cancel-clause-value
returns-else-cancel-clause-value c = (
  λ h. cc,
  λ chain.
      let n = marks_of_chain c.args.clauses.now c.requires.ordered c.args.marks.now c.requires.clean c.requires.room c.args.lits.now
      c.args.first c.args.next.now chain in
      absurd (none_some n.0 (sym c.if-cancel.ensures.marks ∙ n.1)),
)
