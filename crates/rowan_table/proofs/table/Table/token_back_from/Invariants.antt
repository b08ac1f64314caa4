use Rattle.std.proofs.Common.{◌≡◌, ◌<◌, true, Some, length}
use Rattle.rowan_green.specs.declared.utility_types.NodeOrToken.TheVariants.{Node}
use Rattle.rowan_terms.specs.Path.{begins}
use Rattle.rowan_table.specs.Pass.{leaf_list, element_list, until, last_inside}
use Rattle.rowan_table.specs.Table.{root_node, entry_path}
use Rattle.rowan_table.proofs.table.Table.token_back_from.Given as goal
use Rattle.rowan_table.specs.TableView.{entries_of}

-- what is to be found from here is what is to be found from the start
abbrev pub invariant-loop-number : goal.invariant-loop-number
invariant-loop-number l =
    let es = entries_of l.self in
    (l.number < length es)
    × (begins (entry_path es l.top) (entry_path es l.number) ≡ true)
    × (last_inside (entry_path es l.top) (until leaf_list (Some (Node (root_node es)))
    (entry_path es l.number))
    ≡ last_inside (entry_path es l.top) (until leaf_list (Some (Node (root_node es)))
    (entry_path es l.start)))

-- the elements that are left
abbrev pub decreases-loop-number : goal.decreases-loop-number
decreases-loop-number l =
    let es = entries_of l.self in
    length (until element_list (Some (Node (root_node es))) (entry_path es l.number))
