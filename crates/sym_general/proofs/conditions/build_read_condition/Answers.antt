use Rattle.std.proofs.Common.{Err, Some, ◌≡◌, ◌<◌, length, sym, ◌∙◌, ap, subst}
use Rattle.std.specs.Prelude.{slice_index_or}
use Rattle.insn_semantics.specs.Conditions.{cond_expr, cond_reads}
use Rattle.terms.specs.Building.{built}
use Rattle.address_nodes.proofs.Growing.{still_longer}
use Rattle.address_nodes.proofs.Refusals.{handed_on}
use Rattle.sym_rows.specs.declared.operands.ConditionNodes.{ConditionNodes}
use Rattle.sym_rows.specs.Leaves.{AreLeaves, condition_leaf}
use Rattle.sym_general.specs.PathFlags.{WithFlags, condition_nodes, condition_over, flags_read}
use Rattle.sym_general.proofs.ConditionsMade.{leaves_read, over_extends}
use Rattle.sym_general.proofs.FlagReads.{all_read}
use Rattle.sym_general.proofs.NamedLeaves.{flags_numbered}
use Rattle.sym_general.proofs.conditions.build_read_condition.Goals as goal

pub returns-in_err-read_flags-clause-full : goal.returns-in_err-read_flags-clause-full
returns-in_err-read_flags-clause-full c =
    let R = all_read c.args.sheet.now c.args.path.now c.in_order.ensures.sheet c.requires.flags c.requires.five (cond_reads c.args.cond) (flags_numbered c.args.cond) c.requires.set in
    handed_on (65536 < length (condition_over c.args.cond (flags_read c.args.sheet.now c.args.path.now (cond_reads c.args.cond))).nodes)
    c.from_residual.result c.in_err-read_flags.field-0.0 c.from_residual.ensures.1
    (λ full. still_longer (flags_read c.args.sheet.now c.args.path.now (cond_reads c.args.cond)).nodes
    (condition_over c.args.cond (flags_read c.args.sheet.now c.args.path.now (cond_reads c.args.cond))).nodes
    (over_extends c.args.sheet.now c.args.path.now c.args.cond (flags_read c.args.sheet.now c.args.path.now (cond_reads c.args.cond)) R)
    (subst (λ is. 65536 < length (flags_read c.args.sheet.now c.args.path.now is).nodes) c.reads.ensures (c.in_err-read_flags.ensures.full (ap Err full))))

pub condition-requires : goal.condition-requires
condition-requires c =
    let R = all_read c.args.sheet.now c.args.path.now c.in_order.ensures.sheet c.requires.flags c.requires.five (cond_reads c.args.cond) (flags_numbered c.args.cond) c.requires.set in
    let first = slice_index_or (cond_reads c.args.cond) 0 0 in
    let M : flags_read c.args.sheet.now c.args.path.now (cond_reads c.args.cond) ≡ record { nodes = c.read_flags.new.sheet; flags = c.read_flags.new.path } =
    ap (flags_read c.args.sheet.now c.args.path.now) (sym c.reads.ensures) ∙ c.in_ok-read_flags.ensures.made in
    let O : c.condition_nodes-over.result ≡ condition_nodes c.read_flags.new.path (slice_index_or (cond_reads c.args.cond) 0 0) =
    c.condition_nodes-over.ensures ∙ ap (condition_nodes c.read_flags.new.path) c.first_read.ensures in
    subst (λ (o : ConditionNodes). AreLeaves 1 c.read_flags.new.sheet (condition_leaf o)) (sym O)
    (subst (λ (w : WithFlags). AreLeaves 1 w.nodes (condition_leaf (condition_nodes w.flags first))) M
    (leaves_read c.args.sheet.now c.args.path.now c.args.cond (flags_read c.args.sheet.now c.args.path.now (cond_reads c.args.cond)) R))

pub returns-in_err-id-clause-full : goal.returns-in_err-id-clause-full
returns-in_err-id-clause-full c =
    let M : flags_read c.args.sheet.now c.args.path.now (cond_reads c.args.cond) ≡ record { nodes = c.read_flags.new.sheet; flags = c.read_flags.new.path } =
    ap (flags_read c.args.sheet.now c.args.path.now) (sym c.reads.ensures) ∙ c.in_ok-read_flags.ensures.made in
    let O : c.condition_nodes-over.result ≡ condition_nodes c.read_flags.new.path (slice_index_or (cond_reads c.args.cond) 0 0) =
    c.condition_nodes-over.ensures ∙ ap (condition_nodes c.read_flags.new.path) c.first_read.ensures in
    handed_on (65536 < length (condition_over c.args.cond (flags_read c.args.sheet.now c.args.path.now (cond_reads c.args.cond))).nodes)
    c.from_residual-in_err-id.result c.in_err-id.field-0.0 c.from_residual-in_err-id.ensures.1
    (λ full. subst (λ (w : WithFlags). 65536 < length (condition_over c.args.cond w).nodes) (sym M)
    (subst (λ (o : ConditionNodes). 65536 < length (built c.read_flags.new.sheet (condition_leaf o) (cond_expr c.args.cond)).nodes) O (c.in_err-id.ensures.full (ap Err full))))

pub returns-clause-made : goal.returns-clause-made
returns-clause-made c =
    let M : flags_read c.args.sheet.now c.args.path.now (cond_reads c.args.cond) ≡ record { nodes = c.read_flags.new.sheet; flags = c.read_flags.new.path } =
    ap (flags_read c.args.sheet.now c.args.path.now) (sym c.reads.ensures) ∙ c.in_ok-read_flags.ensures.made in
    let O : c.condition_nodes-over.result ≡ condition_nodes c.read_flags.new.path (slice_index_or (cond_reads c.args.cond) 0 0) =
    c.condition_nodes-over.ensures ∙ ap (condition_nodes c.read_flags.new.path) c.first_read.ensures in
    let B : built c.read_flags.new.sheet (condition_leaf (condition_nodes c.read_flags.new.path (slice_index_or (cond_reads c.args.cond) 0 0))) (cond_expr c.args.cond)
    ≡ record { nodes = c.condition.new.sheet; id = c.in_ok-id.id } =
    ap (λ (o : ConditionNodes). built c.read_flags.new.sheet (condition_leaf o) (cond_expr c.args.cond)) (sym O) ∙ c.in_ok-id.ensures.built in
    ap (condition_over c.args.cond) M ∙ (λ t. record { nodes = (B t).nodes; flags = c.read_flags.new.path; cond = Some (B t).id })
