-- Where the parts of headers and of dotted keys lead.
use Rattle.std.specs.Prelude.{ℕ, List, Option, Some, None, length, ◌+◌, ◌-◌, slice_get}
use Rattle.std.specs.Option.{option_and_then, option_map_or, unwrap_or}
use Rattle.toml_values.specs.Find.{asked_at, entry_of}
use Rattle.toml_values.specs.declared.keys.Way.{Way}
use Rattle.toml_values.specs.declared.keys.Way.TheVariants as way
use Rattle.toml_values.specs.declared.value.Item.{Item}
use Rattle.toml_values.specs.declared.value.Item.TheVariants.{Table, Array}
use Rattle.toml_values.specs.declared.value.Made.{Made}
use Rattle.toml_values.specs.declared.value.Made.TheVariants as made
use Rattle.toml_values.specs.declared.value.Slot.{Slot}

-- the table to which a way leads
abbrev pub table_of : Way → Option ℕ
table_of (way.Table place) = Some place
table_of (way.Wrong _) = None

-- the last element
abbrev pub last_of : List ℕ → Option ℕ
last_of xs = slice_get xs (length xs - 1)

-- a header goes on from a table that is no value, and from an array of tables at its last element
abbrev pub on_by_header : ℕ → Made → Item → Option ℕ
on_by_header place made.Value _ = None
on_by_header place _ (Table _) = Some place
on_by_header place _ (Array elements) = last_of elements.items
on_by_header place _ _ = None

-- a header may be that of a table that stood only on the way of others
abbrev pub by_own_header : ℕ → Made → Item → Option ℕ
by_own_header place made.OnTheWay (Table _) = Some place
by_own_header place _ _ = None

-- a dotted key goes on from a table that no header made and that is no value
abbrev pub on_by_dots : ℕ → Made → Item → Option ℕ
on_by_dots place made.OnTheWay (Table _) = Some place
on_by_dots place made.Dotted (Table _) = Some place
on_by_dots place _ _ = None

-- where a header or a dotted key goes on from the value at a place
abbrev pub goes_on : List Slot → (ℕ → Made → Item → Option ℕ) → ℕ → Option ℕ
goes_on slots on place = option_and_then (λ (s : Slot). on place s.origin.made s.item) (slice_get slots place)

-- where a part of a key leads from the table at a place: on from the value that the table has for
-- it, and where it has none to a new table, which comes behind all values
abbrev pub part_leads : List Slot → (ℕ → Made → Item → Option ℕ) → ℕ → List ℕ → Option ℕ
part_leads slots on table key = led (asked_at slots (entry_of key) table) where
  led : Option ℕ → Option ℕ
  led (Some place) = goes_on slots on place
  led None = Some (length slots)

-- where a part of a header leads
abbrev pub header_leads : List Slot → ℕ → List ℕ → Option ℕ
header_leads slots = part_leads slots on_by_header

-- where a part of a dotted key leads
abbrev pub dots_lead : List Slot → ℕ → List ℕ → Option ℕ
dots_lead slots = part_leads slots on_by_dots

-- the place of the value that the table at a place has for a key
abbrev pub of_key : List Slot → ℕ → List ℕ → Option ℕ
of_key slots table key = asked_at slots (entry_of key) table

-- the place of the table whose header ends in a key of the table at a place: that of the one which
-- stood on the way of others, and else a new one behind all values
abbrev pub header_table : List Slot → ℕ → List ℕ → ℕ
header_table slots table key =
    unwrap_or (option_and_then (goes_on slots by_own_header) (of_key slots table key)) (length slots)

-- the place of the element of a header of two brackets: behind all values, and behind the array,
-- where that is new
abbrev pub header_element : List Slot → ℕ → List ℕ → ℕ
header_element slots table key = option_map_or (λ _. length slots) (of_key slots table key) (length slots + 1)
