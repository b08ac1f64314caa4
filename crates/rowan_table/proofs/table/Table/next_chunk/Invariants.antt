use Rattle.std.proofs.Common.{◌≡◌, length}
use Rattle.rowan_table.specs.Chunks.{IsWalk, remaining_chunks, remaining_texts}
use Rattle.rowan_table.proofs.table.Table.next_chunk.Given as goal

-- no chunk was passed over
abbrev pub invariant-loop-walk : goal.invariant-loop-walk
invariant-loop-walk l =
    let table = l.self in
    IsWalk table l.walk × (remaining_chunks table l.walk ≡ remaining_chunks table l.fn.walk)

-- the texts that are left
abbrev pub decreases-loop-walk : goal.decreases-loop-walk
decreases-loop-walk l = length (remaining_texts l.self l.walk.slice.node l.walk.next)
