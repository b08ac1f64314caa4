use Rattle.std.proofs.Common.{◌≡◌, true, refl, ◌∙◌, subst}
use Rattle.std.specs.List.{list_any}
use Rattle.rowan_changes.specs.Changes.{overlaps}
use Rattle.rowan_changes.specs.ChangesKept.{IsFront}
use Rattle.rowan_changes.proofs.ChangeLemmas.{carried-front, pointer-nowhere}
use Rattle.rowan_changes.proofs.changes.Changes.moved_pointer.Goals as goal

pub returns-in-Some : goal.returns-in-Some
returns-in-Some g c =
    c.after_edit.ensures ∙ carried-front c.args.self.now c.args.pointer c.in-Some.front
    (subst (λ r. IsFront c.args.self.now r c.in-Some.front) c.text_range.ensures
    c.in-Some.ensures.some)

pub returns-in-None : goal.returns-in-None
returns-in-None g c =
    pointer-nowhere c.args.self.now c.args.pointer
    (subst (λ r. list_any (overlaps r) c.args.self.now ≡ true) c.text_range.ensures
    (c.in-None.ensures.none refl))
