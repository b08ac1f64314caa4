use Rattle.std.proofs.Common.{◌≡◌, sym, ◌∙◌, ap, subst}
use Rattle.std.proofs.lemmas.Result.{err_from_is_err_and}
use Rattle.rowan_edit.specs.Arrangements.{gap, HasExcluding, AreFree}
use Rattle.rowan_edit.specs.ArrangementsKept.{HasChildren}
use Rattle.rowan_changes.specs.Plan.{Plan, HasConflict, WhyRefused}
use Rattle.rowan_edit.specs.Ranked.{edit_in, edits_in, IsEditIn}
use Rattle.rowan_edit.proofs.PlaceRankLemmas.{at-excluding, met-excluding, none-excluding}
use Rattle.rowan_edit.proofs.PlaceRankLemmas.{gap-memory}
use Rattle.rowan_edit.proofs.RankedLemmas.{is-next}
use Rattle.rowan_changes.proofs.Untouched.{edit_at}
use Rattle.rowan_edit.proofs.green_editor.GreenEditor.has_excluding.Goals as goal

pub has_room-requires : goal.has_room-requires
has_room-requires c =
    let root = c.self.inside.root in
    let e = edit_at c.args.path.now 0 0 c.new-nothing.result.items in
    is-next root c.self.inside.edits.entries e c.in_ok-gap.gap c.self.invariant
    (subst (λ n. IsEditIn root e n c.in_ok-gap.gap) c.len.ensures.len c.in_ok-gap.ensures.ok)

pub returns-then-not-has_room-clause-some : goal.returns-then-not-has_room-clause-some
returns-then-not-has_room-clause-some c = λ yes.
    (let p = c.args.path.now in
    let es = edits_in c.self.inside.edits.entries in
    let x = c.in_ok-gap.gap in
    let is : edit_in x ≡ gap p =
    c.in_ok-gap.ensures.ok.is ∙ ap (edit_at p 0 0) c.new-nothing.ensures.items in
    subst (λ (q : Plan). HasExcluding q.edits p) c.self.view_is (met-excluding es p
    (subst (HasConflict es) is (c.has_room.ensures.conflict c.if-not-has_room.true x.1))))

pub returns-clause-some : goal.returns-clause-some
returns-clause-some c = λ yes.
    (let p = c.args.path.now in
    let own = c.in_ok-own.ensures.some yes in
    subst (λ (q : Plan). HasExcluding q.edits p) c.self.view_is
    (at-excluding c.self.inside.edits.entries p own.0 own.1))

pub returns-clause-none : goal.returns-clause-none
returns-clause-none c = λ other.
    (let p = c.args.path.now in
    let x = c.in_ok-gap.gap in
    let is : edit_in x ≡ gap p =
    c.in_ok-gap.ensures.ok.is ∙ ap (edit_at p 0 0) c.new-nothing.ensures.items in
    subst (λ (q : Plan). AreFree q.edits p) c.self.view_is
    (none-excluding c.self.inside.root p c.args.count c.self.inside.edits.entries x
    (subst (λ (q : Plan). HasChildren q.root p c.args.count) (sym c.self.view_is) c.requires)
    c.self.invariant c.in_ok-gap.ensures.ok.ranked is
    (c.has_room.ensures.room c.if-not-has_room.false) (c.in_ok-own.ensures.none other)))

pub returns-in_err-gap-clause-err : goal.returns-in_err-gap-clause-err
returns-in_err-gap-clause-err c =
    let e = err_from_is_err_and c.from_residual.result c.from_residual.ensures.1 in
    let root = c.self.inside.root in
    let p = c.args.path.now in
    let r = c.in_err-gap.field-0.0 in
    rw (e.1, e.2) (gap-memory root p c.args.count r
    (subst (λ (q : Plan). HasChildren q.root p c.args.count) (sym c.self.view_is) c.requires)
    (λ es. subst (λ ts. WhyRefused (record { root = root; edits = es }) (edit_at p 0 0 ts) r)
    c.new-nothing.ensures.items (c.in_err-gap.ensures.err es)))
