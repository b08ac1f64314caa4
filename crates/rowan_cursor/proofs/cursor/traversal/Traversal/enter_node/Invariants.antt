use Rattle.std.proofs.Common.{◌≡◌, length}
use Rattle.rowan_cursor.specs.TraversalView.{HasTraversal, paths_entered, node_paths_entered}
use Rattle.rowan_cursor.proofs.cursor.traversal.Traversal.enter_node.Given as goal

abbrev pub invariant-loop-number : goal.invariant-loop-number
invariant-loop-number l =
    HasTraversal l.table l.self
    × (node_paths_entered l.table l.self ≡ node_paths_entered l.table l.initial.self)

abbrev pub decreases-loop-number : goal.decreases-loop-number
decreases-loop-number l = length (paths_entered l.table l.self)
