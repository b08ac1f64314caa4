use Rattle.std.proofs.Common.{sym, ◌∙◌, ap}
use Rattle.rowan_table.specs.Moves.{place_of}
use Rattle.rowan_api.specs.Refs.{node_place, element_place}
use Rattle.rowan_edit.specs.Arrangements.{ArrangedPlan}
use Rattle.rowan_changes.proofs.ParentLemmas.{top-root}
use Rattle.rowan_edit.proofs.syntax_editor.SyntaxEditor.is_of_tree.Goals as goal

pub returns-clause-same : goal.returns-clause-same
returns-clause-same g c = λ same.
    top-root (place_of (element_place c.args.element)) (node_place c.tree_top.result)
    c.green.result.now c.tree_top.ensures c.green.ensures
    ∙ c.has_root.ensures.same same
    ∙ ap (λ (p : ArrangedPlan). p.root) c.self.view_is

pub returns-clause-other : goal.returns-clause-other
returns-clause-other g c = λ other is.
    c.has_root.ensures.other other
    (sym (top-root (place_of (element_place c.args.element)) (node_place c.tree_top.result)
    c.green.result.now c.tree_top.ensures c.green.ensures)
    ∙ is
    ∙ sym (ap (λ (p : ArrangedPlan). p.root) c.self.view_is))
