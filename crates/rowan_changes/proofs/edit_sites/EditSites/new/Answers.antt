use Rattle.std.proofs.Common.{◌≡◌, length, Some, refl, sym, subst, arith}
use Rattle.std.specs.Prelude.{slice_get}
use Rattle.std.specs.List.{AllByRecursion}
use Rattle.std.proofs.lemmas.Option.{slice_get_read}
use Rattle.rowan_changes.specs.Edit.{place}
use Rattle.rowan_changes.specs.GreenEditor.{edit_of}
use Rattle.rowan_changes.specs.SitesKept.{sites_in, EndsBefore, IsPlaced}
use Rattle.rowan_changes.proofs.SiteListLemmas.{begun-ends, begun-more}
use Rattle.rowan_changes.proofs.edit_sites.EditSites.new.Goals as goal

pub placed_behind-requires-clause-before : goal.placed_behind-requires-clause-before
placed_behind-requires-clause-before c =
    let ss = c.args.edits.now in
    let k = c.loop-edit.edit-index in
    let s = c.edit-item.result in
    let at : slice_get ss k ≡ Some s =
    slice_get_read ss (length ss) k s refl (omega (arith, c.loop-edit-test.true))
    c.edit-item.is in
    subst (λ es. AllByRecursion (EndsBefore (place (edit_of s))) (sites_in es))
    (sym c.deref.ensures.value)
    (begun-ends ss k s c.loop-edit.list.items c.requires at c.loop-edit.invariant)

pub loop-edit-preserved : goal.loop-edit-preserved
loop-edit-preserved c =
    let ss = c.args.edits.now in
    let k = c.loop-edit.edit-index in
    let s = c.edit-item.result in
    let at : slice_get ss k ≡ Some s =
    slice_get_read ss (length ss) k s refl (omega (arith, c.loop-edit-test.true))
    c.edit-item.is in
    begun-more ss k s c.loop-edit.list.items c.push.new.self.items c.in_ok-placed.placed c.requires
    at c.loop-edit.invariant c.in_ok-placed.ensures.site
    (subst (λ es. IsPlaced (sites_in es) c.in_ok-placed.placed) c.deref.ensures.value
    c.in_ok-placed.ensures.place) c.in_ok-push.ensures.items
