use Rattle.std.proofs.Common.{length, sym, ◌∙◌, ap, subst}
use Rattle.std.proofs.lemmas.List.{length-map}
use Rattle.rowan_green.specs.Fits.{AreWithin}
use Rattle.rowan_green.specs.View.{child_term}
use Rattle.rowan_green.proofs.green.node.GreenNode.child_count.Goals as goal

pub returns-clause-count : goal.returns-clause-count
returns-clause-count c = sym (length-map c.child_slice.result.now child_term)
    ∙ ap length c.child_slice.ensures.terms

pub returns-clause-within : goal.returns-clause-within
returns-clause-within c =
    subst AreWithin c.child_slice.ensures.terms c.child_slice.ensures.sound.within
