use Rattle.std.proofs.Common.{◌≡◌, length}
use Rattle.rowan_cursor.specs.TraversalView.{HasTraversal, remaining_path_events, paths_entered}
use Rattle.rowan_cursor.proofs.cursor.traversal.Traversal.enter.Given as goal

abbrev pub invariant-loop-event : goal.invariant-loop-event
invariant-loop-event l =
    HasTraversal l.table l.self
    × (paths_entered l.table l.self ≡ paths_entered l.table l.initial.self)

abbrev pub decreases-loop-event : goal.decreases-loop-event
decreases-loop-event l = length (remaining_path_events l.table l.self)
