use Rattle.std.proofs.Common.{arith, length, ◌<◌, ◌≤◌}
use Rattle.admission_text.proofs.LoopSteps.{last-none, last-some, more-none, more-some, too-many}
use Rattle.admission_text.proofs.expr.expr_of.Goals as goal

pub returns-in_default-term_of : goal.returns-in_default-term_of
returns-in_default-term_of c =
    let h = c.loop-rest in
    let room : length h.terms < 8 = omega arith in
    last-none c.args.text.now h.rest.now h.minus h.terms h.invariant.0 room c.in_default.ensures c.in_default-term_of.ensures

pub returns-in_default : goal.returns-in_default
returns-in_default c =
    let h = c.loop-rest in
    let room : length h.terms < 8 = omega arith in
    last-some c.args.text.now h.rest.now h.minus h.terms h.invariant.0 c.in-Some-term_of.term c.push.new.self room c.in_default.ensures c.in-Some-term_of.ensures
    c.in_ok-push.ensures.ok

pub returns-in_default-term_of-2 : goal.returns-in_default-term_of-2
returns-in_default-term_of-2 c =
    let h = c.loop-rest in
    let room : length h.terms < 8 = omega arith in
    more-none c.args.text.now h.rest.now h.minus h.terms h.invariant.0 c.in-Some.here.now c.in-Some.after.now c.in-Some.next room c.in-Some.ensures c.in_default-term_of-2.ensures

pub loop-rest-preserved : goal.loop-rest-preserved
loop-rest-preserved c =
    let h = c.loop-rest in
    let room : length h.terms < 8 = omega arith in
    more-some c.args.text.now h.rest.now h.minus h.terms h.invariant.0 c.in-Some.here.now c.in-Some.after.now c.in-Some.next c.in-Some-term_of-2.term
    c.push-in-loop-rest.new.self room c.in-Some.ensures c.in-Some-term_of-2.ensures c.in_ok-push-2.ensures.ok

pub returns : goal.returns
returns c =
    let h = c.loop-rest in
    let full : 8 ≤ length h.terms = omega arith in
    too-many c.args.text.now h.rest.now h.minus h.terms h.invariant.0 full
