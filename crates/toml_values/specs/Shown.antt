-- What is shown of a value.
use Rattle.std.specs.Prelude.{◌≡◌, ℕ, List, Option, String, slice_get, string_bytes}
use Rattle.std.specs.Option.{option_map}
use Rattle.toml_values.specs.declared.value.Item.{Item}
use Rattle.toml_values.specs.declared.value.Item.TheVariants as item
use Rattle.toml_values.specs.declared.value.Slot.{Slot}
use Rattle.toml_values.specs.declared.value.Value.{Value}
use Rattle.toml_values.specs.declared.value.Value.TheVariants as value
use Rattle.toml_values.specs.declared.value.ValueRef.{ValueRef}

-- a value as it stands in the list is this one
abbrev pub Shows : Item → Value → Type 0
Shows (item.Table entries) (value.Table table) = table.entries.now ≡ entries
Shows (item.Array elements) (value.Array array) = array.elements.now ≡ elements.items
Shows (item.String text) (value.String shown) = shown.now ≡ string_bytes text
Shows (item.Integer number) (value.Integer shown) = shown ≡ number
Shows (item.Float number) (value.Float shown) = shown ≡ number
Shows (item.Boolean answer) (value.Boolean shown) = shown ≡ answer
Shows (item.Datetime when) (value.Datetime shown) = shown ≡ when
Shows _ _ = ⊥

-- what stands in the list at the place of a value
abbrev pub slot_of : ValueRef → Option Slot
slot_of value = slice_get value.values.now.slots.items value.place

-- a key's text and the place of its value
abbrev pub as_shown : {A : Type 0} → List (String A × ℕ) → ℕ → Option (List ℕ × ℕ)
as_shown entries index = option_map (λ entry. (string_bytes entry.0, entry.1)) (slice_get entries index)
