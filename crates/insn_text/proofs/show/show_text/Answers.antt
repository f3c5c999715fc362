use Rattle.std.proofs.Common.{◌↔◌, ◌≤◌, IsTrue, List, length, ◌∙◌, subst}
use Rattle.flow_graph.specs.declared.control.Flow.{Flow}
use Rattle.flow_graph.specs.Flows.{IsCut}
use Rattle.insn_table.specs.declared.insn.Insn.{Insn}
use Rattle.insn_text.proofs.Showing.{shown-all, shown-more, shown-none}
use Rattle.insn_text.proofs.show.show_text.Goals as goal

pub loop-place-init : goal.loop-place-init
loop-place-init c = shown-none c.args.f.now _ c.in_ok-text.ensures

pub loop-place-preserved : goal.loop-place-preserved
loop-place-preserved c =
    let marks = subst (λ (flows : List Flow). IsTrue c.is_cut.result ↔ IsCut flows c.loop-place.place) c.requires.graph c.is_cut.ensures in
    shown-more c.args.f.now c.as_slice-insn-items.result.now c.loop-place.place c.loop-place.text.items c.extend_from_slice.new.self.items
    c.as_bytes.result.now c.is_cut.result _ c.as_slice-insn-items.ensures c.loop-place-test.true marks (c.as_bytes.ensures.value ∙ c.in_ok-line.ensures)
    c.in_ok-extend_from_slice.ensures.items c.loop-place.invariant

pub returns : goal.returns
returns c =
    let insns = c.as_slice-insn-items.ensures in
    shown-all c.args.f.now c.loop-place.place c.loop-place.text.items (subst (λ (is : List Insn). length is ≤ c.loop-place.place) insns c.loop-place-test.false)
    c.loop-place.invariant
