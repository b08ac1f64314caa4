use Rattle.std.proofs.Common.{◌++◌, sym, ◌∙◌, ap}
use Rattle.std.specs.Prelude.{reverse}
use Rattle.rowan_cursor.specs.Refs.{node_place}
use Rattle.rowan_changes.proofs.ParentLemmas.{parent-up, path-up, top-path}
use Rattle.rowan_edit.proofs.editor.path_to.Goals as goal

pub loop-parent-smaller : goal.loop-parent-smaller
loop-parent-smaller c =
    (parent-up (node_place c.loop-parent.at) (node_place c.in-Some.parent)
    (sym c.in-Some.ensures)).smaller

pub loop-parent-preserved : goal.loop-parent-preserved
loop-parent-preserved c =
    let up = node_place c.in-Some.parent in
    ap (λ xs. up.path ++ reverse xs) c.in_ok-push.ensures.items
    ∙ path-up (node_place c.loop-parent.at) up c.loop-parent.path.items c.index.result
    (sym c.in-Some.ensures) c.index.ensures
    ∙ c.loop-parent.invariant

pub returns : goal.returns
returns c =
    c.reverse.ensures.items
    ∙ ap (λ p. p ++ reverse c.loop-parent.path.items)
    (sym (top-path (node_place c.loop-parent.at) (sym c.in_default.ensures)))
    ∙ c.loop-parent.invariant
