use Rattle.std.proofs.Common.{sym, ◌∙◌, ap}
use Rattle.std.proofs.lemmas.Bool.{false≢true}
use Rattle.rowan_green.specs.Same.{same_node-decides}
use Rattle.rowan_changes.specs.Plan.{Plan}
use Rattle.rowan_edit.proofs.green_editor.GreenEditor.has_root.Goals as goal

pub returns-clause-same : goal.returns-clause-same
returns-clause-same c = λ same.
    (same_node-decides c.args.node.now c.self.inside.root).0 (sym c.eq.ensures ∙ same)
    ∙ ap (λ (p : Plan). p.root) c.self.view_is

pub returns-clause-other : goal.returns-clause-other
returns-clause-other c = λ other is.
    (let root = is ∙ sym (ap (λ (p : Plan). p.root) c.self.view_is) in
    let same = (same_node-decides c.args.node.now c.self.inside.root).1 root in
    false≢true (sym other ∙ c.eq.ensures ∙ same))
