-- Written by rowan_grammar from toml.ungram: change that, and not this file.
-- What casts to an alternative casts to the whole.
use Rattle.std.specs.Prelude.{◌≡◌, ℕ, Bool, true, false, Option, Some, None}
use Rattle.std.specs.Option.{option_map, option_map_or}
use Rattle.std.proofs.lemmas.Bool.{or_left, or_right}
use Rattle.toml_syntax.specs.declared.kinds.Kind.{Kind}
use Rattle.toml_syntax.specs.Casts.{is_section, is_table, is_array_table, is_value, is_scalar}
use Rattle.toml_syntax.specs.Casts.{is_array, is_inline_table}
use Rattle.toml_syntax.specs.Kinds.{kind_of}

cast_to_more : (p q : Kind → Bool) → ((k : Kind) → p k ≡ true → q k ≡ true)
    → (raw : Option ℕ)
    → option_map_or p (option_map kind_of raw) false ≡ true
    → option_map_or q (option_map kind_of raw) false ≡ true
cast_to_more p q more (Some raw) casts = more (kind_of raw) casts
cast_to_more p q more None casts = casts

pub table_is_section_raw : (raw : Option ℕ)
    → option_map_or is_table (option_map kind_of raw) false ≡ true
    → option_map_or is_section (option_map kind_of raw) false ≡ true
table_is_section_raw = cast_to_more is_table is_section
    (λ k casts. or_left (is_table k) _ casts)

pub array_table_is_section_raw : (raw : Option ℕ)
    → option_map_or is_array_table (option_map kind_of raw) false ≡ true
    → option_map_or is_section (option_map kind_of raw) false ≡ true
array_table_is_section_raw = cast_to_more is_array_table is_section
    (λ k casts. or_right (is_table k) _ casts)

pub scalar_is_value_raw : (raw : Option ℕ)
    → option_map_or is_scalar (option_map kind_of raw) false ≡ true
    → option_map_or is_value (option_map kind_of raw) false ≡ true
scalar_is_value_raw = cast_to_more is_scalar is_value
    (λ k casts. or_left (is_scalar k) _ casts)

pub array_is_value_raw : (raw : Option ℕ)
    → option_map_or is_array (option_map kind_of raw) false ≡ true
    → option_map_or is_value (option_map kind_of raw) false ≡ true
array_is_value_raw = cast_to_more is_array is_value
    (λ k casts. or_right (is_scalar k) _ (
    or_left (is_array k) _ casts))

pub inline_table_is_value_raw : (raw : Option ℕ)
    → option_map_or is_inline_table (option_map kind_of raw) false ≡ true
    → option_map_or is_value (option_map kind_of raw) false ≡ true
inline_table_is_value_raw = cast_to_more is_inline_table is_value
    (λ k casts. or_right (is_scalar k) _ (
    or_right (is_array k) _ casts))
