use Rattle.std.proofs.Common.{◌≤◌, ◌+◌, ◌*◌}
use Rattle.std.specs.Vec.{vec_len}
use Rattle.rowan_thin_rc.specs.Shape.{IsOpen}
use Rattle.rowan_thin_rc_tests.specs.View.{kept_size, children_view}
use Rattle.rowan_thin_rc_tests.proofs.Node.+drop.Given as goal

abbrev pub decreases-drop_into : goal.decreases-drop_into
decreases-drop_into l = 2 * l.self.0 + 1

abbrev pub decreases-drop : goal.decreases-drop
decreases-drop l = goal.size-drop l

abbrev pub invariant-drop-loop-node : goal.invariant-drop-loop-node
invariant-drop-loop-node l = kept_size l.rest.items ≤ l.fn.self.0

abbrev pub decreases-drop-loop-node : goal.decreases-drop-loop-node
decreases-drop-loop-node l = kept_size l.rest.items

abbrev pub invariant-drop_into-loop-block : goal.invariant-drop_into-loop-block
invariant-drop_into-loop-block l =
    IsOpen 2 2 l.block
    × (kept_size l.rest.items + (children_view l.block.list.items).0 ≤ kept_size
    l.fn.rest.items + l.fn.self.0)
    × (kept_size l.fn.rest.items ≤ kept_size l.rest.items)

abbrev pub decreases-drop_into-loop-block : goal.decreases-drop_into-loop-block
decreases-drop_into-loop-block l = vec_len l.block.list
