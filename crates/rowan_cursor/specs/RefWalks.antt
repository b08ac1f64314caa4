-- Walks that are borrowed from their tree, by what is still to come of them.
use Rattle.std.specs.Prelude.{List}
use Rattle.rowan_green.specs.declared.utility_types.NodeOrToken.{NodeOrToken}
use Rattle.rowan_green.specs.declared.utility_types.WalkEvent.{WalkEvent}
use Rattle.rowan_cursor.specs.declared.cursor.descendants_ref.DescendantsRef.{DescendantsRef}
use Rattle.rowan_cursor.specs.declared.cursor.descendants_ref.DescendantsWithTokensRef.{DescendantsWithTokensRef}
use Rattle.rowan_cursor.specs.declared.cursor.node_ref.SyntaxNodeRef.{SyntaxNodeRef}
use Rattle.rowan_cursor.specs.declared.cursor.preorder_ref.PreorderRef.{PreorderRef}
use Rattle.rowan_cursor.specs.declared.cursor.preorder_ref.PreorderWithTokensRef.{PreorderWithTokensRef}
use Rattle.rowan_cursor.specs.declared.cursor.token_ref.SyntaxTokenRef.{SyntaxTokenRef}
use Rattle.rowan_table.specs.Cursor.{Cursor}
use Rattle.rowan_table.specs.Moves.{Element}
use Rattle.rowan_table.specs.Preorder.{event_map}
use Rattle.rowan_cursor.specs.Refs.{node_place, element_place}
use Rattle.rowan_cursor.specs.TraversalView.{traversal_events, traversal_node_events}
use Rattle.rowan_cursor.specs.TraversalView.{traversal_elements, traversal_nodes}

-- the event of a borrowed node, and of a borrowed element
abbrev pub node_event : WalkEvent SyntaxNodeRef → WalkEvent Cursor
node_event e = event_map node_place e

abbrev pub element_event : WalkEvent (NodeOrToken SyntaxNodeRef SyntaxTokenRef)
    → WalkEvent Element
element_event e = event_map element_place e

-- the events of nodes that are still to come
abbrev pub rest_of_node_events : PreorderRef → List (WalkEvent Cursor)
rest_of_node_events i = traversal_node_events i.table.now.value i.traversal

-- the events that are still to come
abbrev pub rest_of_events : PreorderWithTokensRef → List (WalkEvent Element)
rest_of_events i = traversal_events i.table.now.value i.traversal

-- the nodes that are still to come
abbrev pub rest_of_descendants : DescendantsRef → List Cursor
rest_of_descendants i = traversal_nodes i.table.now.value i.traversal

-- the elements that are still to come
abbrev pub rest_of_all_descendants : DescendantsWithTokensRef → List Element
rest_of_all_descendants i = traversal_elements i.table.now.value i.traversal
