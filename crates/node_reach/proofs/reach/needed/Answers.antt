use Rattle.std.proofs.Common.{rules, ◌≡◌, ◌∙◌, ◌-◌, ◌<◌, ◌≤◌, suc, sym, ap, subst, true, length, arith}
use Rattle.std.proofs.lemmas.List.{take_all}
use Rattle.node_reach.specs.Reached.{is_marked}
use Rattle.node_reach.proofs.Marks.{MarksNeeded, MarksRoots, needed_all, needed_more, needed_none}
use Rattle.node_reach.proofs.reach.needed.Goals as goal

pub loop-i-init : goal.loop-i-init
loop-i-init c =
    let all : MarksRoots c.args.roots.now c.loop-root.marks.items =
    subst (λ rs. MarksRoots rs c.loop-root.marks.items) (take_all c.loop-root.root-index c.args.roots.now c.loop-root-test.false) c.loop-root.invariant in
    subst (λ n. MarksNeeded c.args.sheet.now c.args.roots.now n c.loop-root.marks.items) (sym c.len-i.ensures)
    (subst (λ n. MarksNeeded c.args.sheet.now c.args.roots.now n c.loop-root.marks.items) (sym c.loop-root.marks.ok.0)
    (needed_none c.args.sheet.now c.in_order.ensures.sheet c.args.roots.now c.requires c.loop-root.marks.items all))

pub overflow_cast-i : goal.overflow_cast-i
overflow_cast-i c =
    let m : is_marked c.loop-i.marks.items (c.loop-i.i - 1) ≡ true =
    sym (c.mark_at-marked.ensures ∙ ap (λ xs. is_marked xs (c.loop-i.i - 1)) c.as_slice.ensures.value) ∙ c.if-marked.true in
    let b : c.loop-i.i - 1 < length c.args.sheet.now = c.loop-i.invariant.inside (c.loop-i.i - 1) m in
    let room : length c.args.sheet.now ≤ 65536 = c.in_order.ensures.room in
    search rules

pub node-requires : goal.node-requires
node-requires c =
    let m : is_marked c.loop-i.marks.items (c.loop-i.i - 1) ≡ true =
    sym (c.mark_at-marked.ensures ∙ ap (λ xs. is_marked xs (c.loop-i.i - 1)) c.as_slice.ensures.value) ∙ c.if-marked.true in
    c.loop-i.invariant.inside (c.loop-i.i - 1) m

pub loop-i-preserved-in-Continue-branch-2 : goal.loop-i-preserved-in-Continue-branch-2
loop-i-preserved-in-Continue-branch-2 c =
    let m : is_marked c.loop-i.marks.items (c.loop-i.i - 1) ≡ true =
    sym (c.mark_at-marked.ensures ∙ ap (λ xs. is_marked xs (c.loop-i.i - 1)) c.as_slice.ensures.value) ∙ c.if-marked.true in
    let size : c.loop-i.i ≡ suc (c.loop-i.i - 1) = omega arith in
    needed_more c.args.sheet.now c.in_order.ensures.sheet c.args.roots.now c.requires (c.loop-i.i - 1) c.loop-i.marks.items c.mark_arguments.new.marks.items
    (subst (λ n. MarksNeeded c.args.sheet.now c.args.roots.now n c.loop-i.marks.items) size c.loop-i.invariant) m
    (rw c.node.ensures at c.in_ok-mark_arguments.ensures)

pub returns : goal.returns
returns c =
    let done : c.loop-i.i ≡ 0 = omega arith in
    needed_all c.args.sheet.now c.in_order.ensures.sheet c.args.roots.now c.requires c.loop-i.marks.items
    (subst (λ n. MarksNeeded c.args.sheet.now c.args.roots.now n c.loop-i.marks.items) done c.loop-i.invariant)
