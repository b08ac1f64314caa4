use Rattle.std.proofs.Common.{◌+◌, ◌≤◌, take}
use Rattle.std.specs.List.{sum_by}
use Rattle.rowan_green.specs.Term.{node_children}
use Rattle.rowan_table.specs.Count.{entries_under, met_deeper}
use Rattle.rowan_table.proofs.table.count.Count.meet_children.Given as goal

-- what is below the children so far was known to be there
abbrev pub invariant-loop-index : goal.invariant-loop-index
invariant-loop-index l = l.self.known + met_deeper l.self
    ≤ l.fn.self.known + met_deeper l.fn.self
    + sum_by entries_under (take l.index (node_children l.node))
