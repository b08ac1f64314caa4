use Rattle.std.proofs.Common.{List, true, sym, ◌∙◌, ap, subst}
use Rattle.std.specs.Prelude.{not}
use Rattle.rowan_green.specs.Lent.{pointee}
use Rattle.rowan_changes.specs.declared.edit_sites.PlacedEdit.{PlacedEdit}
use Rattle.rowan_changes.specs.Sites.{EditedPlaces, moved_over}
use Rattle.rowan_changes.specs.SitesKept.{sites_in, ArePlaced}
use Rattle.rowan_changes.proofs.ElementLemmas.{some-there}
use Rattle.rowan_changes.proofs.SiteListLemmas.{taken-is, after-taken, after-moved, placed-front}
use Rattle.rowan_changes.proofs.SiteListLemmas.{moved-in-front}
use Rattle.rowan_changes.proofs.edit_sites.EditSites.moved_path.Goals as goal

pub returns-then-is_taken_by-clause-ok : goal.returns-then-is_taken_by-clause-ok
returns-then-is_taken_by-clause-ok c =
    let p = c.args.path.now in
    let xs = c.as_slice-list.result.now in
    let n = c.count_before-count.result in
    let placed = subst ArePlaced (sym c.as_slice-list.ensures.value) c.self.invariant in
    let all : List PlacedEdit → EditedPlaces =
    λ es. record { root = c.self.inside.root; sites = sites_in es } in
    let view = ap all c.as_slice-list.ensures.value ∙ c.self.view_is in
    let taken = taken-is xs p n c.is_taken_by.result placed.turn c.count_before-count.ensures.before
    c.count_before-count.ensures.others c.is_taken_by.ensures in
    after-taken c.self.inside.root xs c.args.self.now p view (taken ∙ c.if-is_taken_by.true)

pub moved_by_all-requires-clause-placed : goal.moved_by_all-requires-clause-placed
moved_by_all-requires-clause-placed c =
    let xs = c.as_slice-list.result.now in
    let placed = subst ArePlaced (sym c.as_slice-list.ensures.value) c.self.invariant in
    subst ArePlaced (sym c.split_at.ensures.front)
    (placed-front xs c.count_before-count.result placed)

pub returns-clause-ok : goal.returns-clause-ok
returns-clause-ok c =
    let p = c.args.path.now in
    let xs = c.as_slice-list.result.now in
    let n = c.count_before-count.result in
    let placed = subst ArePlaced (sym c.as_slice-list.ensures.value) c.self.invariant in
    let all : List PlacedEdit → EditedPlaces =
    λ es. record { root = c.self.inside.root; sites = sites_in es } in
    let view = ap all c.as_slice-list.ensures.value ∙ c.self.view_is in
    let taken = taken-is xs p n c.is_taken_by.result placed.turn c.count_before-count.ensures.before
    c.count_before-count.ensures.others c.is_taken_by.ensures in
    let there = some-there pointee c.element_at.result _ true c.element_at.ensures
    (c.is_none.ensures ∙ ap not c.if-is_none.false) in
    after-moved c.self.inside.root xs c.args.self.now p c.in_ok-moved.moved.items view there
    (taken ∙ c.if-is_taken_by.false)
    (c.in_ok-moved.ensures.ok
    ∙ ap (λ es. moved_over (sites_in es) p) c.split_at.ensures.front
    ∙ sym (moved-in-front xs p n c.count_before-count.ensures.others))
