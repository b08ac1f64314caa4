use Rattle.std.proofs.Common.{◌≡◌, length}
use Rattle.rowan_table.specs.Moves.{first_node_at}
use Rattle.rowan_table.specs.TableView.{root_of, paths_behind, IsWithin}
use Rattle.rowan_table.proofs.table.Table.next_sibling.Given as goal

-- the siblings that were passed are no nodes
abbrev pub invariant-loop-next : goal.invariant-loop-next
invariant-loop-next l =
    let t = l.self in
    IsWithin t l.current
    × (first_node_at (root_of t) (paths_behind t l.number)
    ≡ first_node_at (root_of t) (paths_behind t l.current))

abbrev pub decreases-loop-next : goal.decreases-loop-next
decreases-loop-next l = length (paths_behind l.self l.current)
