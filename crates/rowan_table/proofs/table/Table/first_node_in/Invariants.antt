use Rattle.std.proofs.Common.{◌≡◌, ◌-◌, map}
use Rattle.rowan_table.specs.Moves.{numbers, first_node_at}
use Rattle.rowan_table.specs.Table.{root_node, entry_path}
use Rattle.rowan_table.proofs.table.Table.first_node_in.Given as goal
use Rattle.rowan_table.specs.TableView.{entries_of}

abbrev pub invariant-loop-number : goal.invariant-loop-number
invariant-loop-number l =
    let es = entries_of l.self in
    let end = l.fn.row.end in
    first_node_at (root_node es) (map (entry_path es)
    (numbers l.fn.row.start (end - l.fn.row.start)))
    ≡ first_node_at (root_node es) (map (entry_path es) (numbers l.number (end - l.number)))
