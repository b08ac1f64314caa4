use Rattle.std.proofs.Common.{sym, ◌∙◌}
use Rattle.std.proofs.lemmas.Bool.{false≢true}
use Rattle.rowan_green.specs.Same.{same_node-decides}
use Rattle.rowan_api.specs.Refs.{node_place}
use Rattle.rowan_changes.proofs.ParentLemmas.{top-root}
use Rattle.rowan_changes.proofs.pointers.is_in_tree.Goals as goal

pub returns-clause-same : goal.returns-clause-same
returns-clause-same g c = λ same.
    top-root (node_place c.args.node) (node_place c.tree_top.result) c.green.result.now
    c.tree_top.ensures c.green.ensures
    ∙ (same_node-decides c.green.result.now c.args.root.now).0 (sym c.eq.ensures ∙ same)

pub returns-clause-other : goal.returns-clause-other
returns-clause-other g c = λ other is.
    (let root = sym (top-root (node_place c.args.node) (node_place c.tree_top.result)
    c.green.result.now c.tree_top.ensures c.green.ensures) ∙ is in
    let same = (same_node-decides c.green.result.now c.args.root.now).1 root in
    false≢true (sym other ∙ c.eq.ensures ∙ same))
