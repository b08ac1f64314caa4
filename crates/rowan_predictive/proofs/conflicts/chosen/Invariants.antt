use Rattle.rowan_predictive.specs.Causes.{IsAmong, MayBegin}
use Rattle.rowan_predictive.specs.View.{rules_of}
use Rattle.rowan_predictive.proofs.conflicts.chosen.Given as goal

abbrev pub invariant-loop-step : goal.invariant-loop-step
invariant-loop-step l = IsAmong (rules_of l.entries) l.number l.at
    × (MayBegin (rules_of l.entries) l.kind l.number → MayBegin (rules_of l.entries) l.kind l.at)
