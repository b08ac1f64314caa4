use Rattle.std.proofs.Common.{◌++◌, ◌∷◌, [], sym, ◌∙◌, ap, arith}
use Rattle.std.specs.Cmp.Lexicographic.{slice_cmp}
use Rattle.std.specs.Ordering.{nat_cmp}
use Rattle.rowan_edit.specs.ArrangementsKept.{arrangements_in}
use Rattle.rowan_edit.specs.Edges.{range_edit}
use Rattle.rowan_edit.proofs.ArrangedPlanLemmas.{path-there, path-absent, path-excluded, no-entries}
use Rattle.rowan_edit.proofs.ArrangedPlanLemmas.{nothing-taken, sibling-less, between-excluded}
use Rattle.rowan_edit.proofs.ArrangedPlanLemmas.{none-excluded, between-two, none-between-two}
use Rattle.rowan_edit.proofs.arranging_editor.has_excluded.Goals as goal

pub returns-then-is_empty-clause-none : goal.returns-then-is_empty-clause-none
returns-then-is_empty-clause-none c = λ new other.
    no-entries c.args.arrangements.now.entries
    (range_edit c.args.parent.now new c.args.start c.args.end)
    (c.is_empty.ensures.0 c.if-is_empty.true)

pub returns-then-contains_key-clause-some : goal.returns-then-contains_key-clause-some
returns-then-contains_key-clause-some c = λ new yes.
    path-excluded (arrangements_in c.args.arrangements.now.entries) c.args.parent.now c.args.start
    c.args.end new (path-there c.args.arrangements.now.entries c.args.parent.now
    (sym c.contains_key.ensures ∙ c.if-contains_key.true))

pub returns-then-start-end-clause-none : goal.returns-then-start-end-clause-none
returns-then-start-end-clause-none c = λ new no_key.
    nothing-taken (arrangements_in c.args.arrangements.now.entries) c.args.parent.now c.args.start
    c.args.end new (omega arith) (path-absent c.args.arrangements.now.entries c.args.parent.now
    (sym c.contains_key.ensures ∙ c.if-contains_key.false))

pub has_between-requires : goal.has_between-requires
has_between-requires c =
    let p = c.args.parent.now in
    ap (λ x. slice_cmp nat_cmp x c.in_ok-past.past.items) c.in_ok-first.ensures
    ∙ ap (slice_cmp nat_cmp (p ++ c.args.start ∷ [])) c.in_ok-past.ensures
    ∙ sibling-less p c.args.start c.args.end (omega arith)

pub returns-clause-some : goal.returns-clause-some
returns-clause-some c = λ new yes.
    between-excluded (arrangements_in c.args.arrangements.now.entries) c.args.parent.now c.args.start
    c.args.end new (between-two (arrangements_in c.args.arrangements.now.entries) c.args.parent.now
    c.in_ok-first.first.items c.in_ok-past.past.items c.args.start c.args.end c.in_ok-first.ensures
    c.in_ok-past.ensures (c.has_between.ensures.some yes)) (omega arith)

pub returns-clause-none : goal.returns-clause-none
returns-clause-none c = λ new other.
    none-excluded (arrangements_in c.args.arrangements.now.entries) c.args.parent.now c.args.start
    c.args.end new (path-absent c.args.arrangements.now.entries c.args.parent.now
    (sym c.contains_key.ensures ∙ c.if-contains_key.false))
    (none-between-two (arrangements_in c.args.arrangements.now.entries) c.args.parent.now
    c.in_ok-first.first.items c.in_ok-past.past.items c.args.start c.args.end c.in_ok-first.ensures
    c.in_ok-past.ensures (c.has_between.ensures.none other))
