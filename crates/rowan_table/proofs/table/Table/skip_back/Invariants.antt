use Rattle.std.proofs.Common.{◌≡◌, ◌<◌, true, Some, length}
use Rattle.rowan_green.specs.declared.utility_types.NodeOrToken.TheVariants.{Node}
use Rattle.rowan_terms.specs.Path.{begins}
use Rattle.rowan_table.specs.Pass.{Lists, before}
use Rattle.rowan_table.specs.Table.{root_node, entry_path}
use Rattle.rowan_table.proofs.table.Table.skip_back.Given as goal
use Rattle.rowan_table.specs.TableView.{entries_of}

-- the pass goes back from the ancestor as from the element
abbrev pub invariant-loop-current : goal.invariant-loop-current
invariant-loop-current l =
    let es = entries_of l.self in
    (l.current < length es)
    × (begins (entry_path es l.top) (entry_path es l.current) ≡ true)
    × ((g : Lists) → before g (Some (Node (root_node es))) (entry_path es l.current)
    ≡ before g (Some (Node (root_node es))) (entry_path es l.number))

abbrev pub decreases-loop-current : goal.decreases-loop-current
decreases-loop-current l = l.current
