use Rattle.std.proofs.Common.{sym, ◌∙◌, subst}
use Rattle.address_nodes.specs.Multiples.{AreTerms}
use Rattle.address_nodes.proofs.Terms.{difference_are_terms}
use Rattle.address_nodes.proofs.difference.difference_by.Goals as goal

pub sum_of_terms-requires : goal.sum_of_terms-requires
sum_of_terms-requires c =
    let are = difference_are_terms c.args.sheet.now c.args.a c.args.b c.in_order.ensures.sheet c.requires.first c.requires.second in
    subst (AreTerms c.args.sheet.now) (sym (c.as_slice.ensures ∙ c.requires.terms)) are
