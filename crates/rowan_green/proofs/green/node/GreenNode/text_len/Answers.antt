use Rattle.std.proofs.Common.{ap, ◌∙◌, subst}
use Rattle.rowan_green.specs.Fits.{FitsNode}
use Rattle.rowan_green.specs.Term.{node_len}
use Rattle.rowan_green.proofs.Sound.{AreSound-len, AreSound-fits}
use Rattle.rowan_green.proofs.green.node.GreenNode.text_len.Goals as goal

pub returns-clause-len : goal.returns-clause-len
returns-clause-len c =
    ap (λ f. f.head.text_len) c.value.ensures
    ∙ AreSound-len c.self.inside.data.value.head.kind.0 _ _ c.self.invariant.sound
    ∙ ap node_len c.self.view_is

pub returns-clause-fits : goal.returns-clause-fits
returns-clause-fits c = subst (λ n. FitsNode n) c.self.view_is
    (AreSound-fits c.self.inside.data.value.head.kind.0 _ _ c.self.invariant.sound)
