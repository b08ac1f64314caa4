use Rattle.std.proofs.Common.{◌≡◌, Some, refl, sym, ◌∙◌, ap}
use Rattle.rowan_changes.specs.declared.edit.Splice.{Splice}
use Rattle.rowan_edit.specs.Inside.{rest_behind}
use Rattle.rowan_changes.specs.Sites.{items_in}
use Rattle.rowan_edit.proofs.HalvesLemmas.{parting-next}
use Rattle.rowan_edit.proofs.plain_edits.Halves.part.Goals as goal

pub loop-first-preserved : goal.loop-first-preserved
loop-first-preserved c =
    let p = c.args.path.now in
    let s = c.in-Some.first in
    let q = c.in-Some-2.parent in
    let t : Splice =
    record { parent = q; start = s.start; end = s.end; range = s.range; new = s.new } in
    let deep : rest_behind p s.parent.items ≡ Some q.items =
    ap (rest_behind p) (sym c.deref.ensures.value) ∙ sym c.in_ok-parent.ensures
    ∙ ap items_in c.in-Some-2.is in
    parting-next p c.args.self c.loop-first.behind.items c.pop.new.self.items
    c.loop-first.inside.items c.push-in-Some.new.self.items s t q.items c.loop-first.invariant
    c.in-Some.ensures.items deep refl c.in_ok-push-2.ensures.items
