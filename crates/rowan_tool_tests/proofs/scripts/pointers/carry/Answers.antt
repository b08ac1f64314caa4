use Rattle.std.proofs.lemmas.Slice.Zip.{Zip-more, either_empty_from_Zip}
use Rattle.rowan_tool_tests.proofs.Carrying.{left-next, left-others, left-none}
use Rattle.rowan_tool_tests.proofs.scripts.pointers.carry.Goals as goal

pub loop-step-preserved : goal.loop-step-preserved
loop-step-preserved g c =
    let step = c.in-Some.step.now in
    let report = c.in-Some.report.now in
    let more = Zip-more c.loop-step.step-iterator c.next.new.self c.next.result (c.in-Some.step, c.in-Some.report) c.in-Some.is c.next.ensures.steps in
    left-others step report _ _ c.loop-step.here _ c.loop-step.pointer _ _
    (left-next _ _ _ _ step report c.loop-step.here c.loop-step.pointer _ more c.loop-step.invariant)
    c.in_ok-pointer.ensures

pub returns : goal.returns
returns g c =
    left-none _ _ c.loop-step.here c.loop-step.pointer _ c.loop-step.invariant
    (either_empty_from_Zip c.loop-step.step-iterator c.next.new.self c.next.result c.in-None.is c.next.ensures.steps)
