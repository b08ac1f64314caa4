use Rattle.std.proofs.Common.{◌≡◌, length}
use Rattle.rowan_cursor.specs.TraversalView.{HasTraversal, remaining_path_events}
use Rattle.rowan_cursor.specs.TraversalView.{remaining_node_path_events}
use Rattle.rowan_cursor.proofs.cursor.traversal.Traversal.next_node_event.Given as goal

abbrev pub invariant-loop-event : goal.invariant-loop-event
invariant-loop-event l =
    HasTraversal l.table l.self
    × (remaining_node_path_events l.table l.self
    ≡ remaining_node_path_events l.table l.initial.self)

abbrev pub decreases-loop-event : goal.decreases-loop-event
decreases-loop-event l = length (remaining_path_events l.table l.self)
