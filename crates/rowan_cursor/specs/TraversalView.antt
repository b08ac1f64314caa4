-- What a traversal still gives, as each of the iterators shows it.
use Rattle.std.specs.Prelude.{List, map}
use Rattle.std.proofs.Props.{props}
use Rattle.rowan_green.specs.declared.utility_types.WalkEvent.{WalkEvent}
use Rattle.rowan_terms.specs.Path.{Path}
use Rattle.rowan_cursor.specs.declared.cursor.traversal.Traversal.{Traversal}
use Rattle.rowan_table.specs.declared.table.Table.{Table}
use Rattle.rowan_table.specs.Cursor.{Cursor}
use Rattle.rowan_table.specs.Events.{remaining_events, NextStays, LeavesNoToken, NextStays-prop}
use Rattle.rowan_table.specs.Events.{LeavesNoToken-prop}
use Rattle.rowan_table.specs.Moves.{Element, cursor_at, element_at, nodes_at}
use Rattle.rowan_table.specs.Preorder.{event_map, events_of_nodes, entered_by}
use Rattle.rowan_table.specs.TableView.{root_of, IsNodeIn}

-- a traversal of the table starts at a node, and what comes next is at or below it
pub record HasTraversal (t : Table) (walk : Traversal) : Type 0 where
  pub node : IsNodeIn t walk.start
  pub inside : NextStays t walk.start walk.next

-- and no token that was entered is still to be left
pub record HasNodeTraversal (t : Table) (walk : Traversal) : Type 0 where
  pub traversal : HasTraversal t walk
  pub tokens : LeavesNoToken t walk.next

pub HasTraversal-prop : (t : Table) (walk : Traversal) → IsProp (HasTraversal t walk)
HasTraversal-prop t walk = hlevel (props, NextStays-prop)

pub HasNodeTraversal-prop : (t : Table) (walk : Traversal) → IsProp (HasNodeTraversal t walk)
HasNodeTraversal-prop t walk = hlevel (props, HasTraversal-prop, LeavesNoToken-prop)

-- the events that are left, by their paths
abbrev pub remaining_path_events : Table → Traversal → List (WalkEvent Path)
remaining_path_events t walk = remaining_events t walk.start walk.next

-- the events of nodes that are left, by their paths
abbrev pub remaining_node_path_events : Table → Traversal → List (WalkEvent Path)
remaining_node_path_events t walk = events_of_nodes (root_of t) (remaining_path_events t walk)

-- the paths that are still to be entered
abbrev pub paths_entered : Table → Traversal → List Path
paths_entered t walk = entered_by (remaining_path_events t walk)

-- the paths of nodes that are still to be entered
abbrev pub node_paths_entered : Table → Traversal → List Path
node_paths_entered t walk = nodes_at (root_of t) (paths_entered t walk)

-- the events
abbrev pub traversal_events : Table → Traversal → List (WalkEvent Element)
traversal_events t walk = map (event_map (element_at (root_of t))) (remaining_path_events t walk)

-- the events of nodes
abbrev pub traversal_node_events : Table → Traversal → List (WalkEvent Cursor)
traversal_node_events t walk =
    map (event_map (cursor_at (root_of t))) (remaining_node_path_events t walk)

-- the elements that are still to be entered
abbrev pub traversal_elements : Table → Traversal → List Element
traversal_elements t walk = map (element_at (root_of t)) (paths_entered t walk)

-- the nodes that are still to be entered
abbrev pub traversal_nodes : Table → Traversal → List Cursor
traversal_nodes t walk = map (cursor_at (root_of t)) (node_paths_entered t walk)
