use Rattle.std.proofs.Common.{◌≡◌, length}
use Rattle.rowan_table.specs.Moves.{first_node_at}
use Rattle.rowan_table.specs.TableView.{root_of, paths_before, IsWithin}
use Rattle.rowan_table.proofs.table.Table.prev_sibling.Given as goal

-- the siblings that were passed are no nodes
abbrev pub invariant-loop-before : goal.invariant-loop-before
invariant-loop-before l =
    let t = l.self in
    IsWithin t l.current
    × (first_node_at (root_of t) (paths_before t l.number)
    ≡ first_node_at (root_of t) (paths_before t l.current))

abbrev pub decreases-loop-before : goal.decreases-loop-before
decreases-loop-before l = length (paths_before l.self l.current)
