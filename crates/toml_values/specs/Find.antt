-- Where a path leads among the values of a document.
--     The values stand in a list, the table of the document first. A table has the places of its
--     values by their keys, which are decoded, and an array those of its elements.
use Rattle.std.specs.Prelude.{ℕ, List, Option, Some, None, fold, slice_get, string_bytes}
use Rattle.std.specs.Option.{option_and_then}
use Rattle.indexmap.specs.IndexMap.{get_by_text}
use Rattle.toml_path.specs.declared.path.Step.{Step}
use Rattle.toml_path.specs.declared.path.Step.TheVariants.{Key, Index}
use Rattle.toml_values.specs.declared.value.Item.{Item}
use Rattle.toml_values.specs.declared.value.Item.TheVariants.{Table, Array}
use Rattle.toml_values.specs.declared.value.Slot.{Slot}

-- the place of the value that a table has for a key, whose text is this
abbrev pub entry_of : List ℕ → Item → Option ℕ
entry_of key (Table entries) = get_by_text entries key
entry_of _ _ = None

-- the place of an element of an array
abbrev pub element_of : ℕ → Item → Option ℕ
element_of index (Array elements) = slice_get elements.items index
element_of _ _ = None

-- the place to which a step leads from a value
abbrev pub step_from : Step → Item → Option ℕ
step_from (Key key) = entry_of (string_bytes key)
step_from (Index index) = element_of index

-- what is asked of the value at a place
abbrev pub asked_at : List Slot → (Item → Option ℕ) → ℕ → Option ℕ
asked_at slots question place = option_and_then (λ (s : Slot). question s.item) (slice_get slots place)

-- the place to which a step leads from the value at a place
abbrev pub step_to : List Slot → Step → ℕ → Option ℕ
step_to slots step = asked_at slots (step_from step)

-- the place to which steps lead, one after the other, from the table of the document
abbrev pub place_at : List Slot → List Step → Option ℕ
place_at slots steps = fold (λ place step. option_and_then (step_to slots step) place) (Some 0) steps
