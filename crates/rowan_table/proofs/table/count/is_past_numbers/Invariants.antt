use Rattle.std.proofs.Common.{◌+◌, ◌≤◌}
use Rattle.rowan_table.specs.Count.{entries_below, met_deeper}
use Rattle.rowan_table.proofs.table.count.is_past_numbers.Given as goal

-- what is known of, and what is below the nodes that were met, is in the tree
abbrev pub invariant-loop-node : goal.invariant-loop-node
invariant-loop-node l = l.count.known + met_deeper l.count ≤ entries_below l.root + 1

abbrev pub decreases-loop-node : goal.decreases-loop-node
decreases-loop-node l = l.left
