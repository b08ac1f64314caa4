use Rattle.std.proofs.Common.{◌≡◌, ◌-◌, map, reverse}
use Rattle.rowan_table.specs.Moves.{numbers, first_node_at}
use Rattle.rowan_table.specs.Table.{root_node, entry_path}
use Rattle.rowan_table.proofs.table.Table.last_node_in.Given as goal
use Rattle.rowan_table.specs.TableView.{entries_of}

abbrev pub invariant-loop-number : goal.invariant-loop-number
invariant-loop-number l =
    let es = entries_of l.self in
    let start = l.fn.row.start in
    first_node_at (root_node es) (reverse (map (entry_path es)
    (numbers start (l.fn.row.end - start))))
    ≡ first_node_at (root_node es) (reverse (map (entry_path es)
    (numbers start (l.number - start))))
