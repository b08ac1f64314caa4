-- Moves: where each call of a cursor leads in its tree. First paths, then elements, and then a word
-- for each move.
--     Children stand one place further down. Siblings have the same parent. Each list of them is in
--     the order of the tree, but what stands before a path is listed from the path on, so nearest
--     first.
--     Tokens follow one another in the order of the leaves, whatever stands between them.
use Rattle.std.specs.Prelude.{ℕ, ◌+◌, ◌-◌, Bool, true, false, List, [], ◌∷◌, ◌++◌, map, length}
use Rattle.std.specs.Prelude.{reverse, Option, Some, None, slice_get}
use Rattle.std.specs.List.{find, filter, range_with_len}
use Rattle.std.specs.Option.{option_map, option_map_or}
use Rattle.rowan_green.specs.declared.utility_types.NodeOrToken.{NodeOrToken}
use Rattle.rowan_green.specs.declared.utility_types.NodeOrToken.TheVariants.{Node, Token}
use Rattle.rowan_green.specs.declared.utility_types.Direction.{Direction}
use Rattle.rowan_green.specs.declared.utility_types.Direction.TheVariants.{Next, Prev}
use Rattle.rowan_green.specs.Term.{NodeTerm, Term}
use Rattle.rowan_terms.specs.Path.{Path, subterm, term_children, leaves, stands_before, begins}
use Rattle.rowan_table.specs.Cursor.{Cursor, last_index}

-- ---- paths

-- the path without its last index; the root's has none
abbrev pub parent_path : Path → Option Path
parent_path [] = None
parent_path (i ∷ []) = Some []
parent_path (i ∷ j ∷ p) = option_map (λ q. i ∷ q) (parent_path (j ∷ p))

-- the path and all its beginnings, longest first
abbrev pub ancestor_paths : Path → List Path
ancestor_paths [] = [] ∷ []
ancestor_paths (i ∷ p) = map (λ q. i ∷ q) (ancestor_paths p) ++ [] ∷ []

-- n numbers, from a on
abbrev pub numbers : ℕ → ℕ → List ℕ
numbers a n = range_with_len a n

-- what stands below a term, if there is one
abbrev pub children_of : Option Term → List Term
children_of None = []
children_of (Some t) = term_children t

-- how many children stand below a path
abbrev pub child_count : NodeTerm → Path → ℕ
child_count root p = length (children_of (subterm (Node root) p))

-- the paths of the children at these places
abbrev pub below : Path → List ℕ → List Path
below p places = map (λ i. p ++ i ∷ []) places

-- all children, tokens too
abbrev pub child_paths : NodeTerm → Path → List Path
child_paths root p = below p (numbers 0 (child_count root p))

-- the siblings behind a path, tokens too
abbrev pub following : NodeTerm → Path → List Path
following root p =
    let next = last_index p + 1 in
    option_map_or (λ q. below q (numbers next (child_count root q - next))) (parent_path p) []

-- the siblings before a path, tokens too, nearest first
abbrev pub preceding : NodeTerm → Path → List Path
preceding root p =
    option_map_or (λ q. below q (reverse (numbers 0 (last_index p)))) (parent_path p) []

-- the path itself, and its siblings in one direction
abbrev pub sibling_paths : Direction → NodeTerm → Path → List Path
sibling_paths Next root p = p ∷ following root p
sibling_paths Prev root p = p ∷ preceding root p

-- the paths of all leaves of a term, in order
abbrev pub leaf_paths : Term → List Path
leaf_paths t = map (λ l. l.0) (leaves t)

-- whether it is a node
abbrev pub is_node : Option Term → Bool
is_node (Some (Node n)) = true
is_node (Some (Token t)) = false
is_node None = false

-- whether a node stands at a path
abbrev pub is_node_at : NodeTerm → Path → Bool
is_node_at root p = is_node (subterm (Node root) p)

-- of some paths, those of nodes
abbrev pub nodes_at : NodeTerm → List Path → List Path
nodes_at root paths = filter (is_node_at root) paths

-- of some paths, the first of a node
abbrev pub first_node_at : NodeTerm → List Path → Option Path
first_node_at root paths = find (is_node_at root) paths

-- of some paths, the first
abbrev pub first_at : List Path → Option Path
first_at [] = None
first_at (p ∷ paths) = Some p

-- the first leaf below a path
abbrev pub first_leaf_path : NodeTerm → Path → Option Path
first_leaf_path root p = find (begins p) (leaf_paths (Node root))

-- the last leaf below a path
abbrev pub last_leaf_path : NodeTerm → Path → Option Path
last_leaf_path root p = find (begins p) (reverse (leaf_paths (Node root)))

-- the first leaf behind a path
abbrev pub next_leaf_path : NodeTerm → Path → Option Path
next_leaf_path root p = find (λ q. stands_before p q) (leaf_paths (Node root))

-- the last leaf before a path
abbrev pub prev_leaf_path : NodeTerm → Path → Option Path
prev_leaf_path root p = find (λ q. stands_before q p) (reverse (leaf_paths (Node root)))

-- ---- elements

-- the cursor at a path of a root
abbrev pub cursor_at : NodeTerm → Path → Cursor
cursor_at root p = record { root = root; path = p }

-- a cursor at a node or at a token
abbrev pub Element : Type 0
Element = NodeOrToken Cursor Cursor

abbrev pub element_if : Bool → Cursor → Element
element_if true c = Node c
element_if false c = Token c

-- the element at a path of a root
abbrev pub element_at : NodeTerm → Path → Element
element_at root p = element_if (is_node_at root p) (cursor_at root p)

-- where an element stands
abbrev pub place_of : Element → Cursor
place_of (Node c) = c
place_of (Token c) = c

-- the element at a path of a root, where something stands there
abbrev pub element_if_there : NodeTerm → Path → Option Element
element_if_there root p = option_map (λ t. element_at root p) (subterm (Node root) p)

-- the element to which these indices lead from a node, each among all children of the one before:
-- the node itself where there are none
abbrev pub element_below : Cursor → Path → Option Element
element_below c [] = Some (Node c)
element_below c (i ∷ indices) = element_if_there c.root (c.path ++ i ∷ indices)

-- ---- moves to one element

-- the root of the tree
abbrev pub tree_top : Cursor → Cursor
tree_top c = cursor_at c.root []

-- the parent; a root has none
abbrev pub parent : Cursor → Option Cursor
parent c = option_map (cursor_at c.root) (parent_path c.path)

-- the first child that is a node
abbrev pub first_child : Cursor → Option Cursor
first_child c = option_map (cursor_at c.root) (first_node_at c.root (child_paths c.root c.path))

-- the last child that is a node
abbrev pub last_child : Cursor → Option Cursor
last_child c =
    option_map (cursor_at c.root) (first_node_at c.root (reverse (child_paths c.root c.path)))

-- the first child
abbrev pub first_child_or_token : Cursor → Option Element
first_child_or_token c = option_map (element_at c.root) (first_at (child_paths c.root c.path))

-- the last child
abbrev pub last_child_or_token : Cursor → Option Element
last_child_or_token c =
    option_map (element_at c.root) (first_at (reverse (child_paths c.root c.path)))

-- the child at an index among all children
abbrev pub child_or_token_at_index : Cursor → ℕ → Option Element
child_or_token_at_index c i =
    option_map (element_at c.root) (slice_get (child_paths c.root c.path) i)

-- the next sibling that is a node
abbrev pub next_sibling : Cursor → Option Cursor
next_sibling c = option_map (cursor_at c.root) (first_node_at c.root (following c.root c.path))

-- the nearest sibling before a cursor that is a node
abbrev pub prev_sibling : Cursor → Option Cursor
prev_sibling c = option_map (cursor_at c.root) (first_node_at c.root (preceding c.root c.path))

-- the next sibling
abbrev pub next_sibling_or_token : Cursor → Option Element
next_sibling_or_token c = option_map (element_at c.root) (first_at (following c.root c.path))

-- the sibling before a cursor
abbrev pub prev_sibling_or_token : Cursor → Option Element
prev_sibling_or_token c = option_map (element_at c.root) (first_at (preceding c.root c.path))

-- the first token of all that are in a node; a token itself
abbrev pub first_token : Cursor → Option Cursor
first_token c = option_map (cursor_at c.root) (first_leaf_path c.root c.path)

-- the last token of all that are in a node; a token itself
abbrev pub last_token : Cursor → Option Cursor
last_token c = option_map (cursor_at c.root) (last_leaf_path c.root c.path)

-- the next token of the tree
abbrev pub next_token : Cursor → Option Cursor
next_token c = option_map (cursor_at c.root) (next_leaf_path c.root c.path)

-- the token of the tree before a cursor
abbrev pub prev_token : Cursor → Option Cursor
prev_token c = option_map (cursor_at c.root) (prev_leaf_path c.root c.path)

-- ---- moves to many

-- the children that are nodes
abbrev pub children : Cursor → List Cursor
children c = map (cursor_at c.root) (nodes_at c.root (child_paths c.root c.path))

-- the children
abbrev pub children_with_tokens : Cursor → List Element
children_with_tokens c = map (element_at c.root) (child_paths c.root c.path)

-- a node and its siblings in one direction that are nodes, from the node on
abbrev pub siblings : Direction → Cursor → List Cursor
siblings d c = map (cursor_at c.root) (nodes_at c.root (sibling_paths d c.root c.path))

-- an element and its siblings in one direction, from the element on
abbrev pub siblings_with_tokens : Direction → Cursor → List Element
siblings_with_tokens d c = map (element_at c.root) (sibling_paths d c.root c.path)

-- a node and the nodes above it, up to the root
abbrev pub ancestors : Cursor → List Cursor
ancestors c = map (cursor_at c.root) (ancestor_paths c.path)

-- the nodes above an element: its parent, and so on up to the root
abbrev pub parent_ancestors : Cursor → List Cursor
parent_ancestors c = option_map_or ancestors (parent c) []

-- the ancestors of an element: a node's start with the node itself, a token's with its parent
abbrev pub element_ancestors : Element → List Cursor
element_ancestors (Node c) = ancestors c
element_ancestors (Token c) = parent_ancestors c
