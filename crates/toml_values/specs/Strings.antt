-- What keys and strings stand for.
use Rattle.std.specs.Prelude.{◌≡◌, ℕ, List, ⊤, if◌then◌else◌, string_bytes}
use Rattle.std.specs.Option.{option_map_or}
use Rattle.toml_parser.specs.Strings.{quoted, starts_string}
use Rattle.toml_values.specs.declared.scalars.Shape.{Shape}
use Rattle.toml_values.specs.declared.scalars.Shape.TheVariants as shape
use Rattle.toml_values.specs.declared.strings.Decoded.{Decoded}
use Rattle.toml_values.specs.declared.strings.Decoded.TheVariants.{Text}
use Rattle.toml_values.specs.declared.value.Item.{Item}
use Rattle.toml_values.specs.declared.value.Item.TheVariants as item

-- what a string stands for by TOML's grammar; where it stands for nothing, its own text
abbrev pub string_meant : List ℕ → List ℕ
string_meant text = option_map_or (λ read. read.0) (quoted text) text

-- what a key or a string stands for: without quotes its own text
abbrev pub decoded : List ℕ → List ℕ
decoded text = if starts_string text then string_meant text else text

-- nothing is meant
abbrev pub HasNoText : Decoded → Type 0
HasNoText (Text _) = ⊥
HasNoText _ = ⊤

-- what was read of a string is what it stands for, or it stands for nothing
abbrev pub IsMeant : List ℕ → Decoded → Type 0
IsMeant text (Text string) = string_bytes string ≡ string_meant text
IsMeant text _ = string_meant text ≡ text

-- of a token with the shape of a string the value is what it stands for
abbrev pub IsString : List ℕ → Shape → Item → Type 0
IsString text shape.String (item.String string) = string_bytes string ≡ decoded text
IsString text shape.String _ = ⊥
IsString text _ _ = ⊤
