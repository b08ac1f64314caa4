use Rattle.std.proofs.Common.{◌≡◌, length}
use Rattle.rowan_predictive.specs.Arranging.{all_before, nothing_behind}
use Rattle.rowan_predictive.specs.ArrangingView.{arranged_of}
use Rattle.rowan_predictive.proofs.arranging.arrange.Given as goal

-- what is left, before what was arranged
abbrev pub invariant-actions : goal.invariant-actions
invariant-actions l =
    all_before l.error l.rest (arranged_of l.arranger) ≡ all_before l.error l.actions nothing_behind

abbrev pub decreases-actions : goal.decreases-actions
decreases-actions l = length l.rest
