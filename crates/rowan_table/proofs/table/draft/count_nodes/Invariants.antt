use Rattle.std.proofs.Common.{◌≤◌}
use Rattle.rowan_table.proofs.table.draft.count_nodes.Given as goal

abbrev pub invariant-loop-index : goal.invariant-loop-index
invariant-loop-index l = l.nodes ≤ l.index
