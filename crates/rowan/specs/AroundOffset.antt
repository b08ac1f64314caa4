-- The nodes around the tokens at an offset, from the innermost on.
use Rattle.std.specs.Prelude.{ltb, Bool, true, false, cond, List, [], ◌∷◌, Option, Some, None}
use Rattle.std.specs.Option.{option_map, option_map_or}
use Rattle.rowan_table.specs.Cursor.{Cursor}
use Rattle.rowan_table.specs.Moves.{ancestors, parent_ancestors}
use Rattle.rowan_api.specs.Refs.{node_place}
use Rattle.rowan.specs.Around.{len_at}
use Rattle.rowan.specs.declared.ast.ancestors_at_offset.AncestorsAtOffset.{AncestorsAtOffset}

abbrev pub is_shorter : Cursor → Cursor → Bool
is_shorter c d = ltb (len_at d) (len_at c)

-- a node before the first of some that is not shorter; what comes behind it is made of these
abbrev pub put_in : Cursor → (List Cursor → List Cursor) → List Cursor → List Cursor
put_in c behind [] = c ∷ behind []
put_in c behind (d ∷ ds) =
    cond (is_shorter c d) (d ∷ put_in c behind ds) (c ∷ behind (d ∷ ds))

-- two lists in one: of the second, what is shorter than the first of the other comes before it
abbrev pub merged : List Cursor → List Cursor → List Cursor
merged [] ds = ds
merged (c ∷ cs) ds = put_in c (merged cs) ds

-- the nodes above these tokens, of which there are two at most
abbrev pub all_above : List Cursor → List Cursor
all_above [] = []
all_above (t ∷ ts) = merged (parent_ancestors t) (all_above ts)

-- a node, if there is one, and those above it
abbrev pub from_node : Option Cursor → List Cursor
from_node c = option_map_or ancestors c []

-- the nodes that are still to come
abbrev pub rest_at_offset : {L : Type 0} → AncestorsAtOffset L → List Cursor
rest_at_offset a =
    merged (from_node (option_map node_place a.left)) (from_node (option_map node_place a.right))

-- whether the next of two nodes is the second
abbrev pub is_second : Option Cursor → Option Cursor → Bool
is_second (Some c) (Some d) = is_shorter c d
is_second (Some c) None = false
is_second None d = true

abbrev pub takes_right : {L : Type 0} → AncestorsAtOffset L → Bool
takes_right a = is_second (option_map node_place a.left) (option_map node_place a.right)
