-- What the numbers of a table stand for: the elements of its tree, by their paths and as cursors.
use Rattle.std.specs.Prelude.{◌≡◌, ℕ, ◌+◌, ◌-◌, ◌<◌, ◌≤◌, Bool, true, false, List, map, length}
use Rattle.std.specs.Prelude.{Option, Some, IfSome, slice_get}
use Rattle.std.specs.Option.{option_map}
use Rattle.rowan_terms.specs.Path.{Path}
use Rattle.rowan_green.specs.Term.{NodeTerm, node_children}
use Rattle.rowan_table.specs.declared.table.entry.Entry.{Entry}
use Rattle.rowan_table.specs.Nodes.{Inner}
use Rattle.rowan_table.specs.declared.table.Table.{Table}
use Rattle.rowan_table.specs.declared.table.search.Place.{Place}
use Rattle.rowan_table.specs.Cursor.{Cursor, text_range}
use Rattle.rowan_table.specs.Moves.{cursor_at, is_node_at, Element, element_at, numbers}
use Rattle.rowan_table.specs.Moves.{child_paths, following, preceding}
use Rattle.rowan_table.specs.Table.{root_node, entry_path, entry_children, Describes, IsRow}
use Rattle.rowan_table.specs.Table.{IsRowBack, Facts, all_facts, facts_of, entry_facts}

-- how many entries a table has at most: their numbers have 32 bits, of which the greatest stands
-- for none
abbrev pub entry_limit : ℕ
entry_limit = 4294967295

-- what the entries tell
abbrev pub entries_of : Table → List Facts
entries_of t = all_facts t.nodes t.entries.items

-- the root of the tree
abbrev pub root_of : Table → NodeTerm
root_of t = root_node (entries_of t)

-- the table has an entry with this number
abbrev pub IsWithin : Table → ℕ → Type 0
IsWithin t n = n < length (entries_of t)

-- the table has entries with all numbers below this one
abbrev pub EndsWithin : Table → ℕ → Type 0
EndsWithin t end = end ≤ length (entries_of t)

-- the path of the element with this number
abbrev pub path_at : Table → ℕ → Path
path_at t n = entry_path (entries_of t) n

-- whether a node stands at the path of this number
abbrev pub stands_for_node : Table → ℕ → Bool
stands_for_node t n = is_node_at (root_of t) (path_at t n)

-- the table has an entry with this number, that of a node
pub record IsNodeIn (t : Table) (n : ℕ) : Type 0 where
  pub within : IsWithin t n
  pub is : stands_for_node t n ≡ true

-- the table has an entry with this number, that of a token
pub record IsTokenIn (t : Table) (n : ℕ) : Type 0 where
  pub within : IsWithin t n
  pub is : stands_for_node t n ≡ false

-- the cursor at the path of a number
abbrev pub cursor_of : Table → ℕ → Cursor
cursor_of t n = cursor_at (root_of t) (path_at t n)

-- the element at the path of a number
abbrev pub element_of : Table → ℕ → Element
element_of t n = element_at (root_of t) (path_at t n)

-- the element with this number is the one at this path, where there is either
pub record Leads (t : Table) (number : Option ℕ) (place : Option Path) : Type 0 where
  pub path : option_map (path_at t) number ≡ place
  pub within : IfSome number (IsWithin t)

-- the element with this number is the one at this path, where there is either, and it is a node
pub record LeadsToNode (t : Table) (number : Option ℕ) (place : Option Path) : Type 0 where
  pub path : option_map (path_at t) number ≡ place
  pub node : IfSome number (IsNodeIn t)

-- the element with this number is the one at this path, where there is either, and it is a token
pub record LeadsToToken (t : Table) (number : Option ℕ) (place : Option Path) : Type 0 where
  pub path : option_map (path_at t) number ≡ place
  pub token : IfSome number (IsTokenIn t)

-- the table has entries with the numbers from a start up to an end
pub record IsStretch (t : Table) (start end : ℕ) : Type 0 where
  pub order : start ≤ end
  pub within : EndsWithin t end

-- the paths of the elements with these numbers
abbrev pub row_paths : Table → ℕ → ℕ → List Path
row_paths t start end = map (path_at t) (numbers start (end - start))

-- the elements with these numbers are those at these paths, in this order
abbrev pub StretchShows : Table → ℕ → ℕ → List Path → Type 0
StretchShows t start end paths = IsRow (entries_of t) start end paths

-- the elements with these numbers, from the last on, are those at these paths
abbrev pub StretchShowsBack : Table → ℕ → ℕ → List Path → Type 0
StretchShowsBack t start end paths = IsRowBack (entries_of t) start end paths

-- this entry has the number, and tells of what stands there
abbrev pub IsEntryAt : Table → ℕ → Entry → Type 0
IsEntryAt t n e = Describes (entries_of t) n (facts_of t.nodes e)

-- the node with this number among the nodes stands at the number, and an entry that names it
pub record IsNodeNumber (t : Table) (n k : ℕ) : Type 0 where
  pub inner : Inner
  pub node : slice_get t.nodes k ≡ Some inner
  pub entry : Entry
  pub is : Describes (entries_of t) n (entry_facts entry (Some inner))

-- the numbers of the children of the element with a number go from this start to this end
abbrev pub AreChildNumbers : Table → ℕ → ℕ → ℕ → Type 0
AreChildNumbers t n start end =
    (e : Facts) → slice_get (entries_of t) n ≡ Some e
    → (start ≡ e.first_child) × (end ≡ e.first_child + length (entry_children e))

-- the numbers of the children of the node with a number among the nodes go up to this one
abbrev pub IsChildrenEnd : Table → ℕ → ℕ → Type 0
IsChildrenEnd t k end =
    (x : Inner) → slice_get t.nodes k ≡ Some x
    → end ≡ x.first_child + length (node_children x.green)

-- the paths of the children of the element with a number
abbrev pub paths_below : Table → ℕ → List Path
paths_below t n = child_paths (root_of t) (path_at t n)

-- the paths of the siblings behind the element with a number
abbrev pub paths_behind : Table → ℕ → List Path
paths_behind t n = following (root_of t) (path_at t n)

-- the paths of the siblings before the element with a number, nearest first
abbrev pub paths_before : Table → ℕ → List Path
paths_before t n = preceding (root_of t) (path_at t n)

-- an element of the table, and the range of its text
pub record IsPlace (t : Table) (place : Place) : Type 0 where
  pub within : IsWithin t place.number
  pub lies : place.range ≡ text_range (cursor_of t place.number)

-- the element with this number is one of the children of another. Their numbers go up to `stop`,
-- and that one's text to `limit`
pub record IsChildUpTo (t : Table) (stop limit n : ℕ) : Type 0 where
  pub parent : ℕ
  pub first : ℕ
  pub row : StretchShows t first stop (paths_below t parent)
  pub from : first ≤ n
  pub to : n < stop
  pub ends : limit ≡ (text_range (cursor_of t parent)).end
