use Rattle.std.proofs.Common.{◌≡◌, ◌+◌, ℕ, ◌∙◌, ap, subst}
use Rattle.std.proofs.lemmas.Result.{err_from_is_err_and}
use Rattle.rowan_terms.specs.Path.{Path}
use Rattle.rowan_table.specs.Moves.{place_of}
use Rattle.rowan_cursor.specs.Refs.{node_place}
use Rattle.rowan_changes.specs.Edit.{Edit}
use Rattle.rowan_changes.specs.Plan.{with_edit, WhyRefused}
use Rattle.rowan_edit.proofs.EditorLemmas.{on-ok, if-err, at-child, why-at}
use Rattle.rowan_edit.proofs.editor.Editor.replace.Goals as goal

pub returns-in_err-child-clause-err : goal.returns-in_err-child-clause-err
returns-in_err-child-clause-err c =
    let p = err_from_is_err_and c.from_residual.result c.from_residual.ensures.1 in
    let edit : Path → ℕ → Edit = λ q i. record {
      parent = q;
      start = i;
      end = i + 1;
      new = c.args.new.items;
    } in
    rw (p.1, p.2) (c.in_err-child.ensures.err edit)

pub returns-clause-ok : goal.returns-clause-ok
returns-clause-ok c =
    let child = c.in_ok-child.child in
    let parent = node_place child.parent in
    let edit : Path → ℕ → ℕ → Edit = λ q i j. record {
      parent = q;
      start = i;
      end = j;
      new = c.args.new.items;
    } in
    on-ok c.splice_at.result (λ h. at-child (place_of c.args.element.now) parent child.start
    (λ q i. c.splice_at.new.self ≡ with_edit c.args.self.now (edit q i (i + 1)))
    c.in_ok-child.ensures.parent c.in_ok-child.ensures.start
    (h ∙ ap (λ j. with_edit c.args.self.now (edit parent.path child.start j)) c.in_ok-child.ensures.end)) c.splice_at.ensures.ok

pub returns-clause-err : goal.returns-clause-err
returns-clause-err c =
    let child = c.in_ok-child.child in
    let parent = node_place child.parent in
    let edit : Path → ℕ → ℕ → Edit = λ q i j. record {
      parent = q;
      start = i;
      end = j;
      new = c.args.new.items;
    } in
    if-err c.splice_at.result (λ r w. why-at c.args.self.now (place_of c.args.element.now) parent
    child.start (λ q i. edit q i (i + 1)) r c.in_ok-child.ensures.tree
    c.in_ok-child.ensures.parent c.in_ok-child.ensures.start
    (subst (λ j. WhyRefused c.args.self.now (edit parent.path child.start j) r) c.in_ok-child.ensures.end w)) c.splice_at.ensures.err
