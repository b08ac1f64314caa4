-- Searches around a place, as tools for code make them.
use Rattle.std.specs.Prelude.{ℕ, ◌-◌, ltb, Bool, if◌then◌else◌, List, [], ◌∷◌, drop, Option}
use Rattle.std.specs.Prelude.{Some, None, map, filter, reverse}
use Rattle.std.specs.List.{find}
use Rattle.rowan_green.specs.declared.utility_types.Direction.{Direction}
use Rattle.rowan_green.specs.declared.utility_types.Direction.TheVariants.{Next, Prev}
use Rattle.rowan_green.specs.declared.utility_types.NodeOrToken.TheVariants.{Node, Token}
use Rattle.rowan_terms.specs.Path.{Path, stands_before}
use Rattle.rowan_green.specs.Term.{NodeTerm}
use Rattle.rowan_table.specs.Cursor.{Cursor, text_range}
use Rattle.rowan_table.specs.Moves.{Element, parent_ancestors, siblings_with_tokens, cursor_at}
use Rattle.rowan_table.specs.Moves.{leaf_paths}

-- the number of bytes of a node's text
abbrev pub len_at : Cursor → ℕ
len_at c = (text_range c).end - (text_range c).start

-- the shorter of two nodes, and of two that are as long the first
abbrev pub shorter : Option Cursor → Option Cursor → Option Cursor
shorter None second = second
shorter (Some c) None = Some c
shorter (Some c) (Some d) = if ltb (len_at d) (len_at c) then Some d else Some c

-- the innermost node above a token that casts; of several tokens, the shortest of these
abbrev pub innermost : (Cursor → Bool) → List Cursor → Option Cursor
innermost casts [] = None
innermost casts (t ∷ ts) = shorter (find casts (parent_ancestors t)) (innermost casts ts)

-- the siblings of an element in one direction, without itself
abbrev pub other_siblings : Direction → Element → List Element
other_siblings d (Node c) = drop 1 (siblings_with_tokens d c)
other_siblings d (Token c) = drop 1 (siblings_with_tokens d c)

-- the paths of the leaves in one direction from a path, nearest first
abbrev pub leaves_beyond : Direction → NodeTerm → Path → List Path
leaves_beyond Next root p = filter (λ q. stands_before p q) (leaf_paths (Node root))
leaves_beyond Prev root p = filter (λ q. stands_before q p) (reverse (leaf_paths (Node root)))

-- the tokens of the tree in one direction from a token, nearest first, without itself
abbrev pub other_tokens : Direction → Cursor → List Cursor
other_tokens d c = map (cursor_at c.root) (leaves_beyond d c.root c.path)

-- a token, and the tokens of the tree in one direction from it, nearest first
abbrev pub tokens_from : Direction → Cursor → List Cursor
tokens_from d c = c ∷ other_tokens d c
