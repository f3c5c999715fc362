use Rattle.std.proofs.Common.{Err, ℕ, ◌≡◌, ◌<◌, [], ◌∷◌, length, sym, ◌∙◌, ap, subst}
use Rattle.std.specs.Prelude.{if◌then◌else◌}
use Rattle.std.specs.List.{AllByRecursion}
use Rattle.insn_semantics.specs.Exprs.{leaves_of}
use Rattle.insn_semantics.specs.FormedRows.{HasRowWidth, row_widths}
use Rattle.insn_semantics.specs.Rows.{row_expr}
use Rattle.machine.specs.Access.{writes}
use Rattle.machine.specs.Family.{condition_of}
use Rattle.node_values.specs.Sheets.{width_at}
use Rattle.address_nodes.proofs.Growing.{still_longer}
use Rattle.address_nodes.proofs.Refusals.{handed_on}
use Rattle.sym_rows.specs.declared.lazy_flags.SymFlag.TheVariants.{From}
use Rattle.sym_rows.specs.declared.operands.RowNodes.{RowNodes}
use Rattle.sym_rows.specs.LazyFlags.{shift_count}
use Rattle.sym_rows.specs.Leaves.{row_leaf}
use Rattle.sym_general.specs.Applied.{Applied, WithRow, flags_by, general_applied, row_applied, row_made}
use Rattle.sym_general.specs.Operands.{row_nodes}
use Rattle.sym_general.specs.PathFlags.{WithCondition, condition_made}
use Rattle.sym_general.proofs.Results.{IsReady, general_extends, general_is_condition, general_is_made, general_is_row, ready}
use Rattle.sym_general.specs.Results.{IsGeneralMade}
use Rattle.sym_general.proofs.apply.build_general.Goals as goal

pub returns-in_err-cond-clause-full : goal.returns-in_err-cond-clause-full
returns-in_err-cond-clause-full c =
    handed_on (65536 < length (general_applied c.args.insn.now.op c.args.insn.now.w c.args.values.now c.args.flags c.args.sheet.now).nodes)
    c.from_residual.result c.in_err-cond.field-0.0 c.from_residual.ensures.1
    (λ full. still_longer (condition_made (condition_of c.args.insn.now.op) c.args.flags c.args.sheet.now).nodes
    (general_applied c.args.insn.now.op c.args.insn.now.w c.args.values.now c.args.flags c.args.sheet.now).nodes
    (general_extends c.args.sheet.now c.args.insn.now c.args.values.now c.args.flags c.in_order.ensures.sheet c.requires.general c.requires.width c.requires.row
    c.requires.operands c.requires.flags c.requires.five c.requires.set)
    (subst (λ o. 65536 < length (condition_made o c.args.flags c.args.sheet.now).nodes) c.condition_of.ensures (c.in_err-cond.ensures.full (ap Err full))))

pub returns-then-not-computes_word-clause-made : goal.returns-then-not-computes_word-clause-made
returns-then-not-computes_word-clause-made c =
    let M : condition_made (condition_of c.args.insn.now.op) c.args.flags c.args.sheet.now
    ≡ record { nodes = c.build_condition.new.sheet; flags = c.build_condition.new.path; cond = c.in_ok-cond.cond } =
    ap (λ o. condition_made o c.args.flags c.args.sheet.now) (sym c.condition_of.ensures) ∙ c.in_ok-cond.ensures.made in
    general_is_condition c.args.sheet.now c.args.insn.now c.args.values.now c.args.flags c.in_order.ensures.sheet c.requires.general c.requires.width c.requires.row
    c.requires.operands c.requires.flags c.requires.five c.requires.set (sym c.computes_word.ensures ∙ c.if-not-computes_word.true)
    ∙ ap (λ (t : WithCondition). record { nodes = t.nodes; values = []; flags = t.flags; cond = t.cond }) M

pub shift_count-k-requires : goal.shift_count-k-requires
shift_count-k-requires c =
    let M : condition_made (condition_of c.args.insn.now.op) c.args.flags c.args.sheet.now
    ≡ record { nodes = c.build_condition.new.sheet; flags = c.build_condition.new.path; cond = c.in_ok-cond.cond } =
    ap (λ o. condition_made o c.args.flags c.args.sheet.now) (sym c.condition_of.ensures) ∙ c.in_ok-cond.ensures.made in
    let R = subst (IsReady c.args.insn.now c.args.values.now) M
    (ready c.args.sheet.now c.args.insn.now c.args.values.now c.args.flags c.in_order.ensures.sheet c.requires.general c.requires.width c.requires.row
    c.requires.operands c.requires.flags c.requires.five c.requires.set (sym c.computes_word.ensures ∙ c.if-not-computes_word.false)) in
    subst (λ (o : RowNodes). o.source.0 < length c.build_condition.new.sheet) (sym c.row_nodes-over.ensures) (R.over.inside 1)

pub build_row-requires-clause-row : goal.build_row-requires-clause-row
build_row-requires-clause-row c =
    let M : condition_made (condition_of c.args.insn.now.op) c.args.flags c.args.sheet.now
    ≡ record { nodes = c.build_condition.new.sheet; flags = c.build_condition.new.path; cond = c.in_ok-cond.cond } =
    ap (λ o. condition_made o c.args.flags c.args.sheet.now) (sym c.condition_of.ensures) ∙ c.in_ok-cond.ensures.made in
    let R = subst (IsReady c.args.insn.now c.args.values.now) M
    (ready c.args.sheet.now c.args.insn.now c.args.values.now c.args.flags c.in_order.ensures.sheet c.requires.general c.requires.width c.requires.row
    c.requires.operands c.requires.flags c.requires.five c.requires.set (sym c.computes_word.ensures ∙ c.if-not-computes_word.false)) in
    let K = c.shift_count-k.ensures ∙ ap (λ (o : RowNodes). shift_count c.build_condition.new.sheet c.args.insn.now.op o.source) c.row_nodes-over.ensures in
    subst (HasRowWidth c.args.insn.now.op c.args.insn.now.w) (sym K) R.row

pub build_row-requires-clause-inside : goal.build_row-requires-clause-inside
build_row-requires-clause-inside c =
    let M : condition_made (condition_of c.args.insn.now.op) c.args.flags c.args.sheet.now
    ≡ record { nodes = c.build_condition.new.sheet; flags = c.build_condition.new.path; cond = c.in_ok-cond.cond } =
    ap (λ o. condition_made o c.args.flags c.args.sheet.now) (sym c.condition_of.ensures) ∙ c.in_ok-cond.ensures.made in
    let R = subst (IsReady c.args.insn.now c.args.values.now) M
    (ready c.args.sheet.now c.args.insn.now c.args.values.now c.args.flags c.in_order.ensures.sheet c.requires.general c.requires.width c.requires.row
    c.requires.operands c.requires.flags c.requires.five c.requires.set (sym c.computes_word.ensures ∙ c.if-not-computes_word.false)) in
    subst (λ (o : RowNodes). (j : ℕ) → (row_leaf o j).0 < length c.build_condition.new.sheet) (sym c.row_nodes-over.ensures) R.over.inside

pub build_row-requires-clause-widths : goal.build_row-requires-clause-widths
build_row-requires-clause-widths c =
    let op = c.args.insn.now.op in
    let w = c.args.insn.now.w in
    let M : condition_made (condition_of c.args.insn.now.op) c.args.flags c.args.sheet.now
    ≡ record { nodes = c.build_condition.new.sheet; flags = c.build_condition.new.path; cond = c.in_ok-cond.cond } =
    ap (λ o. condition_made o c.args.flags c.args.sheet.now) (sym c.condition_of.ensures) ∙ c.in_ok-cond.ensures.made in
    let R = subst (IsReady c.args.insn.now c.args.values.now) M
    (ready c.args.sheet.now c.args.insn.now c.args.values.now c.args.flags c.in_order.ensures.sheet c.requires.general c.requires.width c.requires.row
    c.requires.operands c.requires.flags c.requires.five c.requires.set (sym c.computes_word.ensures ∙ c.if-not-computes_word.false)) in
    let K = c.shift_count-k.ensures ∙ ap (λ (o : RowNodes). shift_count c.build_condition.new.sheet c.args.insn.now.op o.source) c.row_nodes-over.ensures in
    subst (λ k. AllByRecursion (λ j. width_at c.build_condition.new.sheet (row_leaf c.row_nodes-over.result j).0 ≡ row_widths op w j) (leaves_of (row_expr op w k))) (sym K)
    (subst (λ (o : RowNodes). AllByRecursion (λ j. width_at c.build_condition.new.sheet (row_leaf o j).0 ≡ row_widths op w j)
    (leaves_of (row_expr op w (shift_count c.build_condition.new.sheet op (row_nodes op c.args.values.now c.in_ok-cond.cond).source)))) (sym c.row_nodes-over.ensures) R.widths)

pub returns-in_err-nodes-clause-full : goal.returns-in_err-nodes-clause-full
returns-in_err-nodes-clause-full c =
    let op = c.args.insn.now.op in
    let w = c.args.insn.now.w in
    let M : condition_made (condition_of c.args.insn.now.op) c.args.flags c.args.sheet.now
    ≡ record { nodes = c.build_condition.new.sheet; flags = c.build_condition.new.path; cond = c.in_ok-cond.cond } =
    ap (λ o. condition_made o c.args.flags c.args.sheet.now) (sym c.condition_of.ensures) ∙ c.in_ok-cond.ensures.made in
    let G = general_is_row c.args.sheet.now c.args.insn.now c.args.values.now c.args.flags c.in_order.ensures.sheet c.requires.general c.requires.width c.requires.row
    c.requires.operands c.requires.flags c.requires.five c.requires.set (sym c.computes_word.ensures ∙ c.if-not-computes_word.false)
    ∙ ap (row_applied c.args.insn.now.op c.args.insn.now.w c.args.values.now) M in
    let K = c.shift_count-k.ensures ∙ ap (λ (o : RowNodes). shift_count c.build_condition.new.sheet c.args.insn.now.op o.source) c.row_nodes-over.ensures in
    handed_on (65536 < length (general_applied c.args.insn.now.op c.args.insn.now.w c.args.values.now c.args.flags c.args.sheet.now).nodes)
    c.from_residual-in_err-nodes.result c.in_err-nodes.field-0.0 c.from_residual-in_err-nodes.ensures.1
    (λ full. subst (λ (a : Applied). 65536 < length a.nodes) (sym G)
    (subst (λ (r : WithRow). 65536 < length r.nodes) (λ t. row_made op w (K t) (c.row_nodes-over.ensures t) c.build_condition.new.sheet)
    (c.in_err-nodes.ensures.full (ap Err full))))

pub returns-clause-made : goal.returns-clause-made
returns-clause-made c =
    let op = c.args.insn.now.op in
    let w = c.args.insn.now.w in
    let M : condition_made (condition_of c.args.insn.now.op) c.args.flags c.args.sheet.now
    ≡ record { nodes = c.build_condition.new.sheet; flags = c.build_condition.new.path; cond = c.in_ok-cond.cond } =
    ap (λ o. condition_made o c.args.flags c.args.sheet.now) (sym c.condition_of.ensures) ∙ c.in_ok-cond.ensures.made in
    let G = general_is_row c.args.sheet.now c.args.insn.now c.args.values.now c.args.flags c.in_order.ensures.sheet c.requires.general c.requires.width c.requires.row
    c.requires.operands c.requires.flags c.requires.five c.requires.set (sym c.computes_word.ensures ∙ c.if-not-computes_word.false)
    ∙ ap (row_applied c.args.insn.now.op c.args.insn.now.w c.args.values.now) M in
    let K = c.shift_count-k.ensures ∙ ap (λ (o : RowNodes). shift_count c.build_condition.new.sheet c.args.insn.now.op o.source) c.row_nodes-over.ensures in
    let B : row_made c.args.insn.now.op c.args.insn.now.w (shift_count c.build_condition.new.sheet c.args.insn.now.op (row_nodes c.args.insn.now.op c.args.values.now c.in_ok-cond.cond).source)
    (row_nodes c.args.insn.now.op c.args.values.now c.in_ok-cond.cond) c.build_condition.new.sheet
    ≡ record { nodes = c.build_row.new.sheet; over = c.in_ok-nodes.nodes } =
    (λ t. row_made c.args.insn.now.op c.args.insn.now.w (sym K t) (sym c.row_nodes-over.ensures t) c.build_condition.new.sheet) ∙ c.in_ok-nodes.ensures.made in
    let done : ℕ → WithRow → Applied = λ k r. record {
      nodes = r.nodes;
      values = if writes op then r.over.result ∷ [] else [];
      flags = flags_by op w k c.build_condition.new.path (From op w r.over);
      cond = c.in_ok-cond.cond;
    } in
    G ∙ (λ t. done (sym K t) (B t))
    ∙ (λ t. record { nodes = c.build_row.new.sheet; values = sym c.written.ensures t; flags = sym (c.flags_after-flags.ensures w) t; cond = c.in_ok-cond.cond })

pub returns-clause-has : goal.returns-clause-has
returns-clause-has c =
    subst (IsGeneralMade c.args.sheet.now c.args.insn.now c.args.values.now c.args.flags) (returns-clause-made c)
    (general_is_made c.args.sheet.now c.args.insn.now c.args.values.now c.args.flags c.in_order.ensures.sheet c.requires.general c.requires.width c.requires.row
    c.requires.operands c.requires.flags c.requires.five c.requires.set)

pub returns-then-not-computes_word-clause-has : goal.returns-then-not-computes_word-clause-has
returns-then-not-computes_word-clause-has c =
    subst (IsGeneralMade c.args.sheet.now c.args.insn.now c.args.values.now c.args.flags) (returns-then-not-computes_word-clause-made c)
    (general_is_made c.args.sheet.now c.args.insn.now c.args.values.now c.args.flags c.in_order.ensures.sheet c.requires.general c.requires.width c.requires.row
    c.requires.operands c.requires.flags c.requires.five c.requires.set)
