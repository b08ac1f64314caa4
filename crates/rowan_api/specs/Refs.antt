-- Nodes, tokens and elements of a language that are borrowed from their tree, and lists and walks
-- of them, as a clause sees them: by the places at which they stand.
use Rattle.std.specs.Prelude.{ℕ, Bool, List, filter}
use Rattle.rowan_green.specs.declared.utility_types.NodeOrToken.{NodeOrToken}
use Rattle.rowan_green.specs.declared.utility_types.NodeOrToken.TheVariants.{Node, Token}
use Rattle.rowan_green.specs.declared.utility_types.WalkEvent.{WalkEvent}
use Rattle.rowan_cursor.specs.declared.cursor.ancestors_ref.AncestorsRef.{AncestorsRef}
use Rattle.rowan_cursor.specs.declared.cursor.descendants_ref.DescendantsRef.{DescendantsRef}
use Rattle.rowan_cursor.specs.declared.cursor.descendants_ref.DescendantsWithTokensRef.{DescendantsWithTokensRef}
use Rattle.rowan_cursor.specs.declared.cursor.element_children_ref.SyntaxElementChildrenRef.{SyntaxElementChildrenRef}
use Rattle.rowan_cursor.specs.declared.cursor.node_children_ref.SyntaxNodeChildrenRef.{SyntaxNodeChildrenRef}
use Rattle.rowan_table.specs.Cursor.{Cursor}
use Rattle.rowan_table.specs.Moves.{Element}
use Rattle.rowan_table.specs.Preorder.{event_map}
use Rattle.rowan_cursor.specs.Refs as raw
use Rattle.rowan_cursor.specs.RefWalks as raw_walks
use Rattle.rowan_api.specs.declared.api.elements_ref.TypedElementsRef.{TypedElementsRef}
use Rattle.rowan_api.specs.declared.api.node_ref.SyntaxNodeRef.{SyntaxNodeRef}
use Rattle.rowan_api.specs.declared.api.nodes_by_kind_ref.NodesByKindRef.{NodesByKindRef}
use Rattle.rowan_api.specs.declared.api.nodes_ref.TypedNodesRef.{TypedNodesRef}
use Rattle.rowan_api.specs.declared.api.preorder_ref.PreorderRef.{PreorderRef}
use Rattle.rowan_api.specs.declared.api.preorder_with_tokens_ref.PreorderWithTokensRef.{PreorderWithTokensRef}
use Rattle.rowan_api.specs.declared.api.token_ref.SyntaxTokenRef.{SyntaxTokenRef}
use Rattle.rowan_api.specs.Kinds.{has_kind}

-- ---- places

-- where a borrowed node stands
abbrev pub node_place : {L : Type 0} → SyntaxNodeRef L → Cursor
node_place r = raw.node_place r.raw

-- where a borrowed token stands
abbrev pub token_place : {L : Type 0} → SyntaxTokenRef L → Cursor
token_place r = raw.token_place r.raw

-- the element that is borrowed
abbrev pub element_place : {L : Type 0} → NodeOrToken (SyntaxNodeRef L) (SyntaxTokenRef L) → Element
element_place (Node r) = Node (node_place r)
element_place (Token r) = Token (token_place r)

-- the event of a borrowed node, and of a borrowed element
abbrev pub node_event : {L : Type 0} → WalkEvent (SyntaxNodeRef L) → WalkEvent Cursor
node_event e = event_map node_place e

abbrev pub element_event : {L : Type 0}
    → WalkEvent (NodeOrToken (SyntaxNodeRef L) (SyntaxTokenRef L)) → WalkEvent Element
element_event e = event_map element_place e

-- ---- what is still to come of a list or a walk

-- of the children of a node, or of siblings in one direction, the nodes
abbrev pub rest_of_nodes : {L : Type 0} → TypedNodesRef L SyntaxNodeChildrenRef → List Cursor
rest_of_nodes list = raw.rest_of_nodes list.raw

-- the children of a node, or siblings in one direction
abbrev pub rest_of_elements : {L : Type 0} → TypedElementsRef L SyntaxElementChildrenRef
    → List Element
rest_of_elements list = raw.rest_of_elements list.raw

-- a node and the nodes above it
abbrev pub rest_of_ancestors : {L : Type 0} → TypedNodesRef L AncestorsRef → List Cursor
rest_of_ancestors list = raw.rest_of_ancestors list.raw

-- the nodes at and below a node
abbrev pub rest_of_descendants : {L : Type 0} → TypedNodesRef L DescendantsRef → List Cursor
rest_of_descendants list = raw_walks.rest_of_descendants list.raw

-- all that is at and below a node
abbrev pub rest_of_all_descendants : {L : Type 0} → TypedElementsRef L DescendantsWithTokensRef
    → List Element
rest_of_all_descendants list = raw_walks.rest_of_all_descendants list.raw

-- of a list of nodes, by what is still to come of the raw list, those of the kind
abbrev pub rest_of_kind : {L I K : Type 0} → (I → List Cursor) → (ℕ → K) → (K → K → Bool)
    → NodesByKindRef L I K → List Cursor
rest_of_kind rest meaning same list = filter (has_kind meaning same list.kind) (rest list.nodes.raw)

-- the events of nodes
abbrev pub rest_of_node_events : {L : Type 0} → PreorderRef L → List (WalkEvent Cursor)
rest_of_node_events walk = raw_walks.rest_of_node_events walk.raw

-- the events of elements
abbrev pub rest_of_events : {L : Type 0} → PreorderWithTokensRef L → List (WalkEvent Element)
rest_of_events walk = raw_walks.rest_of_events walk.raw
