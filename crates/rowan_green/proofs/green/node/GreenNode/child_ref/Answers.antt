use Rattle.std.proofs.Common.{length, Some, sym, ap, ◌∙◌, arith, subst, rules}
use Rattle.std.proofs.lemmas.List.{length-map}
use Rattle.rowan_green.specs.Fits.{AreWithin}
use Rattle.rowan_green.specs.View.{child_term}
use Rattle.rowan_green.proofs.ChildList.{child-at, StandsAt}
use Rattle.rowan_green.proofs.green.node.GreenNode.child_ref.Goals as goal

pub returns-clause-some : goal.returns-clause-some
returns-clause-some c =
    let cs = c.child_slice.result.now in
    let look = c.in_ok-child.ensures.lookup in
    let at = child-at 0 cs c.args.index c.in_ok-child.child.now c.child_slice.ensures.sound.offsets
    look.3.0 look.1 in
    let at' = subst (λ ts. StandsAt 0 ts c.args.index c.in_ok-child.child.now)
    c.child_slice.ensures.terms at in
    (omega (arith, at'.offset), at'.term ∙ ap (λ t. Some t) (sym c.as_ref.ensures))

pub returns-clause-none : goal.returns-clause-none
returns-clause-none c =
    let count = sym (length-map c.child_slice.result.now child_term)
    ∙ ap length c.child_slice.ensures.terms in
    ((λ e. absurd (cc)), (λ h. absurd (omega (arith, count, c.in_ok-child.ensures.lookup.3.0))))

pub returns-in_err-child-clause-none : goal.returns-in_err-child-clause-none
returns-in_err-child-clause-none c =
    let count = sym (length-map c.child_slice.result.now child_term)
    ∙ ap length c.child_slice.ensures.terms in (
      (λ e. omega (arith, count, c.in_err-child.ensures.lookup.3)),
      (λ h. rw c.from_residual.ensures (search rules)),
    )

pub returns-clause-within : goal.returns-clause-within
returns-clause-within c =
    subst AreWithin c.child_slice.ensures.terms c.child_slice.ensures.sound.within

pub returns-in_err-child-clause-within : goal.returns-in_err-child-clause-within
returns-in_err-child-clause-within c =
    subst AreWithin c.child_slice.ensures.terms c.child_slice.ensures.sound.within
