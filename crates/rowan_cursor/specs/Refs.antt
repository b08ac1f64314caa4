-- Nodes, tokens and elements that are borrowed from their tree, and lists of them, as a clause sees
-- them: by the places at which they stand.
use Rattle.std.specs.Prelude.{List}
use Rattle.rowan_green.specs.declared.utility_types.NodeOrToken.{NodeOrToken}
use Rattle.rowan_green.specs.declared.utility_types.NodeOrToken.TheVariants.{Node, Token}
use Rattle.rowan_cursor.specs.declared.cursor.ancestors_ref.AncestorsRef.{AncestorsRef}
use Rattle.rowan_cursor.specs.declared.cursor.element_children_ref.SyntaxElementChildrenRef.{
  SyntaxElementChildrenRef,
}
use Rattle.rowan_cursor.specs.declared.cursor.node_children_ref.SyntaxNodeChildrenRef.{
  SyntaxNodeChildrenRef,
}
use Rattle.rowan_cursor.specs.declared.cursor.node_ref.SyntaxNodeRef.{SyntaxNodeRef}
use Rattle.rowan_cursor.specs.declared.cursor.token_ref.SyntaxTokenRef.{SyntaxTokenRef}
use Rattle.rowan_cursor.specs.declared.cursor.nodes_by_kind_ref.NodesByKindRef.{NodesByKindRef}
use Rattle.rowan_table.specs.Cursor.{Cursor}
use Rattle.rowan_cursor.specs.Kinds.{those_of_kind}
use Rattle.rowan_table.specs.Moves.{Element}
use Rattle.rowan_table.specs.TableView.{cursor_of}
use Rattle.rowan_cursor.specs.Walks.{row_nodes, row_elements, climb_nodes}

-- where a borrowed node stands
abbrev pub node_place : SyntaxNodeRef → Cursor
node_place r = cursor_of r.table.now.value r.number

-- where a borrowed token stands
abbrev pub token_place : SyntaxTokenRef → Cursor
token_place r = cursor_of r.table.now.value r.number

-- the element that is borrowed
abbrev pub element_place : NodeOrToken SyntaxNodeRef SyntaxTokenRef → Element
element_place (Node r) = Node (node_place r)
element_place (Token r) = Token (token_place r)

-- the nodes of a row that are still to come
abbrev pub rest_of_nodes : SyntaxNodeChildrenRef → List Cursor
rest_of_nodes i = row_nodes i.table.now.value i.row

-- of the nodes of a row that are still to come, those of a kind
abbrev pub rest_of_kind : NodesByKindRef → List Cursor
rest_of_kind i = those_of_kind i.kind.0 (rest_of_nodes i.nodes)

-- the elements of a row that are still to come
abbrev pub rest_of_elements : SyntaxElementChildrenRef → List Element
rest_of_elements i = row_elements i.table.now.value i.row

-- the nodes of a climb that are still to come
abbrev pub rest_of_ancestors : AncestorsRef → List Cursor
rest_of_ancestors i = climb_nodes i.table.now.value i.climb
