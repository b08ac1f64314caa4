use Rattle.std.proofs.Common.{◌≡◌, List, false, ◌∙◌, ap, subst}
use Rattle.std.specs.List.{AllByRecursion}
use Rattle.std.proofs.lemmas.Result.{err_from_is_err_and}
use Rattle.rowan_changes.specs.Edit.{Edit, conflicts}
use Rattle.rowan_changes.specs.Plan.{Plan, IsOf, WhyRefused, HasConflict, with_edit}
use Rattle.rowan_edit.specs.Ranked.{edits_in, IsEditIn}
use Rattle.rowan_edit.proofs.RankedLemmas.{is-next, put-ranked}
use Rattle.rowan_changes.proofs.Untouched.{edit_at}
use Rattle.rowan_edit.proofs.green_editor.GreenEditor.splice.Goals as goal

pub has_room-requires : goal.has_room-requires
has_room-requires c =
    let es = c.self.inside.edits.entries in
    let e = edit_at c.args.parent.now c.args.children.start c.args.children.end
    c.args.new.items in
    is-next c.self.inside.root es e (c.in_ok-rank.rank, c.in_ok-rank.body) c.self.invariant
    (subst (λ n. IsEditIn c.self.inside.root e n (c.in_ok-rank.rank, c.in_ok-rank.body))
    c.len-count.ensures.len c.in_ok-rank.ensures.ok)

pub invariant_of-self-2 : goal.invariant_of-self-2
invariant_of-self-2 c =
    let es = c.self.inside.edits.entries in
    let e = edit_at c.args.parent.now c.args.children.start c.args.children.end
    c.args.new.items in
    (put-ranked c.self.inside.root es c.insert.new.self.entries
    (c.in_ok-rank.rank, c.in_ok-rank.body) e c.self.invariant
    (subst (λ n. IsEditIn c.self.inside.root e n (c.in_ok-rank.rank, c.in_ok-rank.body))
    c.len-count.ensures.len c.in_ok-rank.ensures.ok)
    (c.has_room.ensures.room c.if-not-has_room.false) c.in_ok-insert.ensures.entries).kept

pub returns-clause-ok : goal.returns-clause-ok
returns-clause-ok c =
    let es = c.self.inside.edits.entries in
    let e = edit_at c.args.parent.now c.args.children.start c.args.children.end
    c.args.new.items in
    let put = put-ranked c.self.inside.root es c.insert.new.self.entries
    (c.in_ok-rank.rank, c.in_ok-rank.body) e c.self.invariant
    (subst (λ n. IsEditIn c.self.inside.root e n (c.in_ok-rank.rank, c.in_ok-rank.body))
    c.len-count.ensures.len c.in_ok-rank.ensures.ok)
    (c.has_room.ensures.room c.if-not-has_room.false) c.in_ok-insert.ensures.entries in
    let made : List Edit → Plan = λ ds. record { root = c.self.inside.root; edits = ds } in
    ap made put.list ∙ ap (λ (p : Plan). with_edit p e) c.self.view_is

pub returns-clause-apart : goal.returns-clause-apart
returns-clause-apart c =
    let es = c.self.inside.edits.entries in
    let e = edit_at c.args.parent.now c.args.children.start c.args.children.end
    c.args.new.items in
    let put = put-ranked c.self.inside.root es c.insert.new.self.entries
    (c.in_ok-rank.rank, c.in_ok-rank.body) e c.self.invariant
    (subst (λ n. IsEditIn c.self.inside.root e n (c.in_ok-rank.rank, c.in_ok-rank.body))
    c.len-count.ensures.len c.in_ok-rank.ensures.ok)
    (c.has_room.ensures.room c.if-not-has_room.false) c.in_ok-insert.ensures.entries in
    subst (λ (p : Plan). AllByRecursion (λ f. conflicts f e ≡ false) p.edits) c.self.view_is
    put.apart

pub returns-clause-place : goal.returns-clause-place
returns-clause-place c =
    let e = edit_at c.args.parent.now c.args.children.start c.args.children.end
    c.args.new.items in
    subst (λ (p : Plan). IsOf p.root e) c.self.view_is c.in_ok-rank.ensures.ok.of

pub returns-then-not-has_room-clause-err : goal.returns-then-not-has_room-clause-err
returns-then-not-has_room-clause-err c =
    let e = edit_at c.args.parent.now c.args.children.start c.args.children.end
    c.args.new.items in
    let met : HasConflict (edits_in c.self.inside.edits.entries) e =
    subst (HasConflict (edits_in c.self.inside.edits.entries)) c.in_ok-rank.ensures.ok.is
    (c.has_room.ensures.conflict c.if-not-has_room.true c.in_ok-rank.body) in
    subst (λ (p : Plan). HasConflict p.edits e) c.self.view_is met

pub returns-in_err-rank-clause-err : goal.returns-in_err-rank-clause-err
returns-in_err-rank-clause-err c =
    let p = err_from_is_err_and c.from_residual.result c.from_residual.ensures.1 in
    let e = edit_at c.args.parent.now c.args.children.start c.args.children.end
    c.args.new.items in
    let fault = c.in_err-rank.field-0.0 in
    let seen : Plan =
    record { root = c.self.inside.root; edits = edits_in c.self.inside.edits.entries } in
    let why : WhyRefused seen e fault = c.in_err-rank.ensures.err seen.edits in
    rw (p.1, p.2) (subst (λ (q : Plan). WhyRefused q e fault) c.self.view_is why)
