use Rattle.std.proofs.Common.{rules}
use Rattle.rowan_predictive.specs.ArrangingView.{arranged_of}
use Rattle.rowan_predictive.proofs.Arranged.{arranged-more}
use Rattle.rowan_predictive.proofs.arranging.arrange.Goals as goal

pub actions-preserved : goal.actions-preserved
actions-preserved c =
    arranged-more c.args.error c.actions.rest.now c.in-Some.before.now c.in-Some.action.now
    (arranged_of c.actions.arranger) (arranged_of c.put.new.self) _ (search rules)
    c.in_ok-put.ensures c.actions.invariant
