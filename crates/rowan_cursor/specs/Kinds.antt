-- Moves to what is of a kind.
use Rattle.std.specs.Prelude.{ℕ, ◌==◌, Bool, false, List, [], ◌∷◌, map, Option}
use Rattle.std.specs.List.{find, filter}
use Rattle.std.specs.Option.{option_map_or}
use Rattle.rowan_green.specs.declared.utility_types.NodeOrToken.TheVariants.{Node, Token}
use Rattle.rowan_table.specs.Cursor.{Cursor, kind}
use Rattle.rowan_table.specs.Moves.{Element, cursor_at, children, children_with_tokens}
use Rattle.rowan_table.specs.Moves.{nodes_at, following}

-- whether what stands at a cursor is of a kind
abbrev pub is_of_kind : ℕ → Cursor → Bool
is_of_kind k c = option_map_or (λ j. j == k) (kind c) false

-- of some cursors, those at what is of a kind
abbrev pub those_of_kind : ℕ → List Cursor → List Cursor
those_of_kind k cs = filter (is_of_kind k) cs

-- of some cursors, the first at what is of a kind
abbrev pub first_of_kind : ℕ → List Cursor → Option Cursor
first_of_kind k cs = find (is_of_kind k) cs

-- of some elements, the tokens
abbrev pub tokens_in : List Element → List Cursor
tokens_in [] = []
tokens_in (Node c ∷ es) = tokens_in es
tokens_in (Token c ∷ es) = c ∷ tokens_in es

-- the first child that is a node of a kind
abbrev pub first_child_by_kind : ℕ → Cursor → Option Cursor
first_child_by_kind k c = first_of_kind k (children c)

-- the siblings behind an element that are nodes
abbrev pub nodes_behind : Cursor → List Cursor
nodes_behind c = map (cursor_at c.root) (nodes_at c.root (following c.root c.path))

-- the next sibling that is a node of a kind
abbrev pub next_sibling_by_kind : ℕ → Cursor → Option Cursor
next_sibling_by_kind k c = first_of_kind k (nodes_behind c)

-- the first child that is a token of a kind
abbrev pub first_token_of_kind : ℕ → Cursor → Option Cursor
first_token_of_kind k c = first_of_kind k (tokens_in (children_with_tokens c))
