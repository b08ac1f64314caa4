use Rattle.std.proofs.Common.{◌-◌, length}
use Rattle.rowan_table.specs.Chunks.{SkipsTo}
use Rattle.rowan_table.proofs.table.Table.skip_to.Given as goal
use Rattle.rowan_table.specs.TableView.{entries_of}

-- no token was skipped that does not end before the offset
abbrev pub invariant-loop-child : goal.invariant-loop-child
invariant-loop-child l = SkipsTo l.self l.offset l.top l.number

abbrev pub decreases-loop-child : goal.decreases-loop-child
decreases-loop-child l = length (entries_of l.self) - l.number
