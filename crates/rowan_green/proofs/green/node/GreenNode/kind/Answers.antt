use Rattle.std.proofs.Common.{subst}
use Rattle.rowan_green.specs.Fits.{FitsNode}
use Rattle.rowan_green.proofs.Sound.{AreSound-fits}
use Rattle.rowan_green.proofs.green.node.GreenNode.kind.Goals as goal

pub returns-clause-fits : goal.returns-clause-fits
returns-clause-fits c = subst (λ n. FitsNode n) c.self.view_is
    (AreSound-fits c.self.inside.data.value.head.kind.0 _ _ c.self.invariant.sound)
