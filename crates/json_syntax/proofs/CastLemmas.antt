-- Written by rowan_grammar from json.ungram: change that, and not this file.
-- What casts to an alternative casts to the whole.
use Rattle.std.specs.Prelude.{◌≡◌, ℕ, Bool, true, false, Option, Some, None}
use Rattle.std.specs.Option.{option_map, option_map_or}
use Rattle.std.proofs.lemmas.Bool.{or_left, or_right}
use Rattle.json_syntax.specs.declared.kinds.Kind.{Kind}
use Rattle.json_syntax.specs.Casts.{is_value, is_object, is_array, is_literal}
use Rattle.json_syntax.specs.Kinds.{kind_of}

cast_to_more : (p q : Kind → Bool) → ((k : Kind) → p k ≡ true → q k ≡ true)
    → (raw : Option ℕ)
    → option_map_or p (option_map kind_of raw) false ≡ true
    → option_map_or q (option_map kind_of raw) false ≡ true
cast_to_more p q more (Some raw) casts = more (kind_of raw) casts
cast_to_more p q more None casts = casts

pub object_is_value_raw : (raw : Option ℕ)
    → option_map_or is_object (option_map kind_of raw) false ≡ true
    → option_map_or is_value (option_map kind_of raw) false ≡ true
object_is_value_raw = cast_to_more is_object is_value
    (λ k casts. or_left (is_object k) _ casts)

pub array_is_value_raw : (raw : Option ℕ)
    → option_map_or is_array (option_map kind_of raw) false ≡ true
    → option_map_or is_value (option_map kind_of raw) false ≡ true
array_is_value_raw = cast_to_more is_array is_value
    (λ k casts. or_right (is_object k) _ (
    or_left (is_array k) _ casts))

pub literal_is_value_raw : (raw : Option ℕ)
    → option_map_or is_literal (option_map kind_of raw) false ≡ true
    → option_map_or is_value (option_map kind_of raw) false ≡ true
literal_is_value_raw = cast_to_more is_literal is_value
    (λ k casts. or_right (is_object k) _ (
    or_right (is_array k) _ casts))
