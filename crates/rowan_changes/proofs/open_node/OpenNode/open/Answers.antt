use Rattle.std.proofs.Common.{◌≡◌, Some, ◌∙◌, ap}
use Rattle.std.specs.Prelude.{slice_get}
use Rattle.rowan_green.specs.declared.utility_types.NodeOrToken.TheVariants.{Node}
use Rattle.rowan_green.specs.Lent.{pointee}
use Rattle.rowan_green.specs.Term.{node_children}
use Rattle.rowan_changes.specs.OpenNode.{closed, closed_children}
use Rattle.rowan_changes.proofs.OpenNodeLemmas.{opened}
use Rattle.rowan_changes.proofs.open_node.OpenNode.open.Goals as goal

pub returns-clause-same : goal.returns-clause-same
returns-clause-same c =
    let f = c.in_ok-node.field-0 in
    let child = c.in-Some-default-Node.child.now in
    let got : slice_get (node_children f.node.now) c.args.index ≡ Some (Node child) =
    c.in-Some-default-Node.ensures.some.1
    ∙ ap (λ e. Some (pointee e)) c.in-Some-default-Node.field-0-1-is in
    opened f.node.now c.args.self.node.now c.args.index f.kept f.done.items
    (closed_children c.args.self) child (closed c.new.result) c.in_ok-node.ensures.node
    c.in_ok-node.ensures.closed c.in_ok-node.ensures.kept got c.new.ensures.closed
