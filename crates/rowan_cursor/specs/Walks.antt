-- Walks over a table by which iterators go, and what they still give. A walk is numbers alone: a
-- row is of entries side by side, and a climb leads from a node up to the root.
use Rattle.std.specs.Prelude.{ℕ, ◌-◌, List, [], map, reverse, Ok, Err, IfSome}
use Rattle.std.specs.List.{filter}
use Rattle.std.specs.Option.{option_map, option_map_or}
use Rattle.rowan_green.specs.declared.fault.Fault.TheVariants.{Memory}
use Rattle.rowan_green.specs.declared.utility_types.Direction.{Direction}
use Rattle.rowan_green.specs.declared.utility_types.Direction.TheVariants.{Next, Prev}
use Rattle.rowan_cursor.specs.declared.cursor.climb.Climb.{Climb}
use Rattle.rowan_cursor.specs.declared.cursor.remainder.Remainder.{Remainder}
use Rattle.rowan_cursor.specs.declared.cursor.remainder.Remainder.TheVariants.{Walk, Refusal}
use Rattle.rowan_cursor.specs.declared.cursor.remainder.Remainder.TheVariants.{Nothing}
use Rattle.rowan_cursor.specs.declared.cursor.row.Row.{Row}
use Rattle.rowan_table.specs.declared.table.Table.{Table}
use Rattle.rowan_table.specs.Cursor.{Cursor}
use Rattle.rowan_table.specs.Moves.{Element, ancestors, numbers}
use Rattle.rowan_table.specs.TableView.{cursor_of, element_of, stands_for_node, EndsWithin}
use Rattle.rowan_table.specs.TableView.{IsNodeIn}
use Rattle.rowan_table.specs.Yields.{Rest}

-- what an iterator still gives: the items of its walk, or a refusal, or nothing
abbrev pub rest_of : {W A : Type 0} → (Table → W → List A) → Remainder W → Rest A
rest_of items (Walk table walk) = Ok (items table.value walk)
rest_of items Refusal = Err Memory
rest_of items Nothing = Ok []

-- the walk of an iterator, if there is one, has this property in its table
abbrev pub IfWalk : {W : Type 0} → (Table → W → Type 0) → Remainder W → Type 0
IfWalk P (Walk table walk) = P table.value walk
IfWalk P Refusal = Unit {0}
IfWalk P Nothing = Unit {0}

-- the numbers from a start up to an end, in a direction
abbrev pub numbers_between : ℕ → ℕ → Direction → List ℕ
numbers_between start end Next = numbers start (end - start)
numbers_between start end Prev = reverse (numbers start (end - start))

-- the numbers of a row, in the order in which they come
abbrev pub row_numbers : Row → List ℕ
row_numbers row = numbers_between row.start row.end row.direction

-- the table has the entries of a row
abbrev pub HasRow : Table → Row → Type 0
HasRow t row = EndsWithin t row.end

-- the numbers of a row that are those of nodes
abbrev pub node_numbers : Table → Row → List ℕ
node_numbers t row = filter (stands_for_node t) (row_numbers row)

-- the elements of a row
abbrev pub row_elements : Table → Row → List Element
row_elements t row = map (element_of t) (row_numbers row)

-- the nodes of a row
abbrev pub row_nodes : Table → Row → List Cursor
row_nodes t row = map (cursor_of t) (node_numbers t row)

-- the table has the node that comes next in a climb
abbrev pub HasClimb : Table → Climb → Type 0
HasClimb t climb = IfSome climb.next (IsNodeIn t)

-- the nodes of a climb
abbrev pub climb_nodes : Table → Climb → List Cursor
climb_nodes t climb = option_map_or ancestors (option_map (cursor_of t) climb.next) []
