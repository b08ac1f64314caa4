use Rattle.std.proofs.Common.{map, sym, ap, ◌∙◌, subst}
use Rattle.rowan_green.specs.Fits.{FitsNode}
use Rattle.rowan_green.specs.Term.{node_len}
use Rattle.rowan_green.specs.View.{child_term, AreSound}
use Rattle.rowan_green.proofs.ChildList.{children-view}
use Rattle.rowan_green.proofs.Sound.{AreSound-len, AreSound-fits}
use Rattle.rowan_green.proofs.green.node.GreenNode.child_slice.Goals as goal

pub returns-clause-terms : goal.returns-clause-terms
returns-clause-terms c = ap (map child_term) c.items.ensures
    ∙ children-view c.self.inside.data.value c.args.self.now c.self.view_is

pub returns-clause-sound : goal.returns-clause-sound
returns-clause-sound c =
    let stored = c.self.inside.data.value in
    let sound = c.self.invariant.sound in
    let len = AreSound-len stored.head.kind.0 _ _ sound ∙ ap node_len c.self.view_is in
    subst (λ n. AreSound n c.items.result.now) len
    (subst (λ cs. AreSound stored.head.text_len cs) (sym c.items.ensures) sound)

pub returns-clause-fits : goal.returns-clause-fits
returns-clause-fits c = subst (λ n. FitsNode n) c.self.view_is
    (AreSound-fits c.self.inside.data.value.head.kind.0 _ _ c.self.invariant.sound)
