use Rattle.std.proofs.Common.{arith, ap, sym, subst}
use Rattle.rowan_green.specs.Fits.{Fits}
use Rattle.rowan_green.specs.Term.{term_len}
use Rattle.rowan_green.specs.View.{child_term}
use Rattle.rowan_green.proofs.Sound.{AreSound-push}
use Rattle.rowan_green.proofs.green.node.NodeDraft.push.Goals as goal

pub invariant_of-self-2 : goal.invariant_of-self-2
invariant_of-self-2 c =
    let s = c.self.inside in
    let child = c.new.result in
    let fits : Fits (child_term child) =
    subst Fits (sym c.new.ensures.term) c.text_len.ensures.fits in
    AreSound-push s.text_len _ s.children.block.list.items _ child c.self.invariant
    c.new.ensures.offset (omega (arith, c.len.ensures)) fits
    (omega (arith, ap term_len c.new.ensures.term)) (omega arith) c.in_ok-push.ensures.ok

pub returns-clause-within : goal.returns-clause-within
returns-clause-within c =
    let s = c.self.inside in
    let child = c.new.result in
    let fits : Fits (child_term child) =
    subst Fits (sym c.new.ensures.term) c.text_len.ensures.fits in
    (AreSound-push s.text_len c.from-self-inside.result s.children.block.list.items
    c.push.new.self.block.list.items child c.self.invariant c.new.ensures.offset
    (omega (arith, c.len.ensures)) fits (omega (arith, ap term_len c.new.ensures.term))
    (omega arith) c.in_ok-push.ensures.ok).within
