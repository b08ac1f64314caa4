use Rattle.rowan_predictive.specs.Causes.{IsWay, way_of}
use Rattle.rowan_predictive.specs.View.{rules_of}
use Rattle.rowan_predictive.proofs.refusals.cycle_from.Given as goal

abbrev pub invariant-loop-step : goal.invariant-loop-step
invariant-loop-step l = IsWay (way_of l.steps) (rules_of l.entries) l.first l.cycle.items l.at
