use Rattle.rowan_predictive.proofs.Anchors.{anchors-less}
use Rattle.rowan_predictive.proofs.machine.Machine.step.Goals as goal

pub expand-requires-clause-anchors : goal.expand-requires-clause-anchors
expand-requires-clause-anchors c =
    anchors-less c.args.entries.now c.args.self.now.stack.items c.pop.new.self.items c.in-Some.frame
    c.in-Some.ensures.items c.requires.anchors

pub returns-in_ok-push-in-End-clause-anchors : goal.returns-in_ok-push-in-End-clause-anchors
returns-in_ok-push-in-End-clause-anchors c =
    anchors-less c.args.entries.now c.args.self.now.stack.items c.pop.new.self.items c.in-Some.frame
    c.in-Some.ensures.items c.requires.anchors

pub returns-in_ok-push-in-Leave-clause-anchors : goal.returns-in_ok-push-in-Leave-clause-anchors
returns-in_ok-push-in-Leave-clause-anchors c =
    anchors-less c.args.entries.now c.args.self.now.stack.items c.pop.new.self.items c.in-Some.frame
    c.in-Some.ensures.items c.requires.anchors
