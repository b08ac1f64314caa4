use Rattle.std.proofs.Common.{◌≡◌, length}
use Rattle.rowan_cursor.specs.Walks.{row_numbers, node_numbers, HasRow}
use Rattle.rowan_cursor.proofs.cursor.row.Row.next_node.Given as goal

abbrev pub invariant-loop-number : goal.invariant-loop-number
invariant-loop-number l =
    HasRow l.table l.self × (node_numbers l.table l.self ≡ node_numbers l.table l.initial.self)

abbrev pub decreases-loop-number : goal.decreases-loop-number
decreases-loop-number l = length (row_numbers l.self)
