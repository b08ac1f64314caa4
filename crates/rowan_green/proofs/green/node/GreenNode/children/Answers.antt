use Rattle.std.proofs.Common.{subst}
use Rattle.rowan_green.specs.Fits.{AreWithin}
use Rattle.rowan_green.proofs.green.node.GreenNode.children.Goals as goal

pub returns-clause-within : goal.returns-clause-within
returns-clause-within c =
    subst AreWithin c.child_slice.ensures.terms c.child_slice.ensures.sound.within
