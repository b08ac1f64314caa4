use Rattle.std.proofs.Common.{refl, arith}
use Rattle.rowan_green.specs.declared.utility_types.NodeOrToken.TheVariants.{Node}
use Rattle.rowan_script.proofs.Traces.{Trace-more, last_element-more}
use Rattle.rowan_script.proofs.script.traces.trace.Goals as goal

pub loop-step-preserved : goal.loop-step-preserved
loop-step-preserved c =
    let start = Node c.args.start.now in
    let here = c.loop-step.reports.items in
    let more = c.push_reserved.new.self.items in
    record {
      trace = Trace-more c.args.steps.now c.loop-step.step-index here more start c.loop-step.here
          c.step-item.result c.make_step-report.result c.loop-step-test.true c.step-item.is
          c.push_reserved.ensures.items c.loop-step.invariant.here c.loop-step.invariant.trace
          c.make_step-report.ensures.report;
      here = last_element-more here more start c.loop-step.here c.make_step-report.new.here
          c.make_step-report.result c.push_reserved.ensures.items c.loop-step.invariant.here
          c.make_step-report.ensures.led;
      room = omega arith;
      len = omega arith;
    }
