use Rattle.std.proofs.Common.{◌≡◌, ◌∷◌, ◌++◌, [], length, Some, sym, ◌∙◌, ap, subst, arith}
use Rattle.std.specs.Prelude.{slice_get}
use Rattle.rowan_changes.specs.Sites.{EditedPlaces, ArePutAt}
use Rattle.rowan_changes.proofs.SiteListLemmas.{placed-length, put-at}
use Rattle.rowan_changes.proofs.Ways.{get-at}
use Rattle.rowan_changes.proofs.edit_sites.EditSites.placed.Goals as goal

pub returns-clause-some : goal.returns-clause-some
returns-clause-some c =
    let es = c.self.inside.list.items in
    let n = c.args.index in
    let e = c.in_ok-edit.edit.now in
    let parent = c.in_ok-start.parent.now in
    let start = c.in_ok-start.start.now in
    let at : slice_get es n ≡ Some e =
    subst (λ xs. slice_get xs n ≡ Some e) c.deref.ensures.value
    (get-at c.deref.result.now n e c.in_ok-edit.ensures.lookup.3.0 c.in_ok-edit.ensures.lookup.1) in
    let is : e.new_place.items ≡ parent ++ start ∷ [] =
    sym c.deref-2.ensures.value ∙ c.in_ok-start.ensures.cases.0 in
    subst (λ (a : EditedPlaces). ArePutAt a.sites n parent start e.new_end) c.self.view_is
    (put-at es n e parent start c.self.invariant at is)

pub returns-in_err-start-clause-none : goal.returns-in_err-start-clause-none
returns-in_err-start-clause-none c = λ none.
    (let es = c.self.inside.list.items in
    let n = c.args.index in
    let e = c.in_ok-edit.edit.now in
    let at : slice_get es n ≡ Some e =
    subst (λ xs. slice_get xs n ≡ Some e) c.deref.ensures.value
    (get-at c.deref.result.now n e c.in_ok-edit.ensures.lookup.3.0 c.in_ok-edit.ensures.lookup.1) in
    absurd (omega (
      arith,
      c.in_err-start.ensures.cases,
      ap length c.deref-2.ensures.value,
      placed-length _ e (c.self.invariant.each n e at),
    )))
