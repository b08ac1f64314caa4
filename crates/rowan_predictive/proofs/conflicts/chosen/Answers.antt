use Rattle.rowan_predictive.specs.Causes as causes
use Rattle.rowan_predictive.proofs.CauseLemmas.{some-of}
use Rattle.rowan_predictive.proofs.conflicts.chosen.Goals as goal

pub loop-step-init : goal.loop-step-init
loop-step-init c = (causes.itself, λ m. m)

pub loop-step-preserved : goal.loop-step-preserved
loop-step-preserved c =
    let found = some-of _ c.begun_part.result c.in-Some.part c.in-Some.is c.begun_part.ensures in (
      causes.further c.loop-step.invariant.0 found.0,
      λ m. found.1,
    )
