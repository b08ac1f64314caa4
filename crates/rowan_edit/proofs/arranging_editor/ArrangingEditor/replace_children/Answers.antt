use Rattle.std.proofs.Common.{◌≡◌, inl, sym, ◌∙◌, ap, subst, List, true}
use Rattle.std.specs.List.{list_all}
use Rattle.rowan_edit.specs.Arrangements.{Arrangement, ArrangedPlan, HasPath, IsArrangementOf}
use Rattle.rowan_edit.specs.Arrangements.{AreFree, with_arrangement}
use Rattle.rowan_edit.specs.ArrangementsKept.{arrangements_in, AreClear, HasChildren}
use Rattle.rowan_edit.specs.Pieces.{is_within}
use Rattle.rowan_edit.proofs.ArrangedPlanLemmas.{all-put, is-arranged, path-there, put-entry}
use Rattle.rowan_edit.proofs.arranging_editor.ArrangingEditor.replace_children.Goals as goal

pub returns-then-contains_key-clause-err : goal.returns-then-contains_key-clause-err
returns-then-contains_key-clause-err c =
    let p = c.args.parent.items in
    inl (subst (λ (q : ArrangedPlan). HasPath q.arrangements p) c.self.view_is
    (path-there c.self.inside.arrangements.entries p
    (sym c.contains_key.ensures ∙ c.if-contains_key.true)))

pub invariant_of-self-2 : goal.invariant_of-self-2
invariant_of-self-2 c =
    let root = c.self.inside.green.root in
    let es = c.self.inside.green.edits in
    let old = c.self.inside.arrangements.entries in
    let p = c.args.parent.items in
    let count = c.in-Some.count in
    let a : Arrangement = record { path = p; pieces = c.args.pieces.items } in
    let node : HasChildren root p count =
    subst (λ q. HasChildren root q count) c.deref.ensures.value c.in-Some.ensures.some in
    let all : list_all (is_within count) c.args.pieces.items ≡ true =
    ap (list_all (is_within count)) (sym c.deref-2.ensures.value) ∙ sym c.are_within.ensures
    ∙ c.if-not-are_within.false in
    let free : AreFree es p =
    subst (AreFree es) c.deref-3.ensures.value (c.in_ok-excluded.ensures.none c.if-excluded.false) in
    subst (AreClear root es)
    (sym (ap arrangements_in c.in_ok-insert.ensures.entries
    ∙ put-entry old c.args.parent c.args.pieces))
    (all-put (λ b. IsArrangementOf root b × AreFree es b.path) (arrangements_in old) a
    c.self.invariant (is-arranged root a count node all, free))

pub returns-clause-ok : goal.returns-clause-ok
returns-clause-ok c =
    let old = c.self.inside.arrangements.entries in
    let a : Arrangement = record { path = c.args.parent.items; pieces = c.args.pieces.items } in
    let made : List Arrangement → ArrangedPlan = λ rs. record {
      root = c.self.inside.green.root;
      edits = c.self.inside.green.edits;
      arrangements = rs;
    } in
    ap made (ap arrangements_in c.in_ok-insert.ensures.entries
    ∙ put-entry old c.args.parent c.args.pieces)
    ∙ ap (λ (q : ArrangedPlan). with_arrangement q a) c.self.view_is
