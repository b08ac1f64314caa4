use Rattle.std.proofs.Common.{subst, sym}
use Rattle.rowan_predictive.specs.Causes.{LeadsTo, IsWay, way_of, here}
use Rattle.rowan_predictive.specs.View.{rules_of}
use Rattle.rowan_predictive.proofs.CauseLemmas.{some-of, onwards, cycle}
use Rattle.rowan_predictive.proofs.refusals.cycle_from.Goals as goal

pub loop-step-init : goal.loop-step-init
loop-step-init c =
    subst (λ xs. IsWay (way_of c.args.steps) (rules_of c.args.entries.now) c.args.first xs c.args.first)
    (sym c.new-cycle.ensures.items) here

pub loop-step-preserved : goal.loop-step-preserved
loop-step-preserved c =
    let entries = c.args.entries.now in
    let by = way_of c.args.steps in
    onwards by (rules_of entries) c.loop-step.cycle.items c.push.new.self.items c.args.first c.loop-step.at c.in-Some.part
    c.loop-step.invariant
    (some-of (LeadsTo by (rules_of entries) c.loop-step.at) c.unknown_part.result c.in-Some.part c.in-Some.is c.unknown_part.ensures)
    c.in_ok-push.ensures.items

pub returns-then-at-first : goal.returns-then-at-first
returns-then-at-first c =
    let entries = c.args.entries.now in
    let by = way_of c.args.steps in
    cycle by (rules_of entries) c.loop-step.cycle.items c.push.new.self.items c.args.first c.loop-step.at c.in-Some.part
    c.loop-step.invariant
    (some-of (LeadsTo by (rules_of entries) c.loop-step.at) c.unknown_part.result c.in-Some.part c.in-Some.is c.unknown_part.ensures)
    c.in_ok-push.ensures.items c.if-at-first.true
