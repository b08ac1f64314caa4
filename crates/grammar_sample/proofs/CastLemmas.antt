-- Written by rowan_grammar from sample.ungram: change that, and not this file.
-- What casts to an alternative casts to the whole.
use Rattle.std.specs.Prelude.{◌≡◌, ℕ, Bool, true, false, Option, Some, None}
use Rattle.std.specs.Option.{option_map, option_map_or}
use Rattle.std.proofs.lemmas.Bool.{or_left, or_right}
use Rattle.rowan.specs.Cursor.{Cursor, kind}
use Rattle.rowan.specs.Ast.{casts_at}
use Rattle.grammar_sample.specs.declared.kinds.Kind.{Kind}
use Rattle.grammar_sample.specs.Casts.{is_section, is_table, is_array_table, is_key_part}
use Rattle.grammar_sample.specs.Casts.{is_bare_key, is_quoted_key, is_composed, is_array}
use Rattle.grammar_sample.specs.Casts.{is_inline_table, is_literal, is_text_literal}
use Rattle.grammar_sample.specs.Casts.{is_integer_literal, is_float_literal, is_boolean_literal}
use Rattle.grammar_sample.specs.Casts.{is_moment_literal, is_value, is_reference, is_call}
use Rattle.grammar_sample.specs.Kinds.{kind_of}

cast_to_more : (p q : Kind → Bool) → ((k : Kind) → p k ≡ true → q k ≡ true)
    → (raw : Option ℕ)
    → option_map_or p (option_map kind_of raw) false ≡ true
    → option_map_or q (option_map kind_of raw) false ≡ true
cast_to_more p q more (Some raw) casts = more (kind_of raw) casts
cast_to_more p q more None casts = casts

pub table_is_section_raw : (raw : Option ℕ)
    → option_map_or is_table (option_map kind_of raw) false ≡ true
    → option_map_or is_section (option_map kind_of raw) false ≡ true
table_is_section_raw = cast_to_more is_table is_section
    (λ k casts. or_left (is_table k) _ casts)

pub table_is_section : (c : Cursor)
    → casts_at kind_of is_table c ≡ true → casts_at kind_of is_section c ≡ true
table_is_section c = table_is_section_raw (kind c)

pub array_table_is_section_raw : (raw : Option ℕ)
    → option_map_or is_array_table (option_map kind_of raw) false ≡ true
    → option_map_or is_section (option_map kind_of raw) false ≡ true
array_table_is_section_raw = cast_to_more is_array_table is_section
    (λ k casts. or_right (is_table k) _ casts)

pub array_table_is_section : (c : Cursor)
    → casts_at kind_of is_array_table c ≡ true → casts_at kind_of is_section c ≡ true
array_table_is_section c = array_table_is_section_raw (kind c)

pub bare_key_is_key_part_raw : (raw : Option ℕ)
    → option_map_or is_bare_key (option_map kind_of raw) false ≡ true
    → option_map_or is_key_part (option_map kind_of raw) false ≡ true
bare_key_is_key_part_raw = cast_to_more is_bare_key is_key_part
    (λ k casts. or_left (is_bare_key k) _ casts)

pub bare_key_is_key_part : (c : Cursor)
    → casts_at kind_of is_bare_key c ≡ true → casts_at kind_of is_key_part c ≡ true
bare_key_is_key_part c = bare_key_is_key_part_raw (kind c)

pub quoted_key_is_key_part_raw : (raw : Option ℕ)
    → option_map_or is_quoted_key (option_map kind_of raw) false ≡ true
    → option_map_or is_key_part (option_map kind_of raw) false ≡ true
quoted_key_is_key_part_raw = cast_to_more is_quoted_key is_key_part
    (λ k casts. or_right (is_bare_key k) _ casts)

pub quoted_key_is_key_part : (c : Cursor)
    → casts_at kind_of is_quoted_key c ≡ true → casts_at kind_of is_key_part c ≡ true
quoted_key_is_key_part c = quoted_key_is_key_part_raw (kind c)

pub array_is_composed_raw : (raw : Option ℕ)
    → option_map_or is_array (option_map kind_of raw) false ≡ true
    → option_map_or is_composed (option_map kind_of raw) false ≡ true
array_is_composed_raw = cast_to_more is_array is_composed
    (λ k casts. or_left (is_array k) _ casts)

pub array_is_composed : (c : Cursor)
    → casts_at kind_of is_array c ≡ true → casts_at kind_of is_composed c ≡ true
array_is_composed c = array_is_composed_raw (kind c)

pub inline_table_is_composed_raw : (raw : Option ℕ)
    → option_map_or is_inline_table (option_map kind_of raw) false ≡ true
    → option_map_or is_composed (option_map kind_of raw) false ≡ true
inline_table_is_composed_raw = cast_to_more is_inline_table is_composed
    (λ k casts. or_right (is_array k) _ casts)

pub inline_table_is_composed : (c : Cursor)
    → casts_at kind_of is_inline_table c ≡ true → casts_at kind_of is_composed c ≡ true
inline_table_is_composed c = inline_table_is_composed_raw (kind c)

pub text_literal_is_literal_raw : (raw : Option ℕ)
    → option_map_or is_text_literal (option_map kind_of raw) false ≡ true
    → option_map_or is_literal (option_map kind_of raw) false ≡ true
text_literal_is_literal_raw = cast_to_more is_text_literal is_literal
    (λ k casts. or_left (is_text_literal k) _ casts)

pub text_literal_is_literal : (c : Cursor)
    → casts_at kind_of is_text_literal c ≡ true → casts_at kind_of is_literal c ≡ true
text_literal_is_literal c = text_literal_is_literal_raw (kind c)

pub integer_literal_is_literal_raw : (raw : Option ℕ)
    → option_map_or is_integer_literal (option_map kind_of raw) false ≡ true
    → option_map_or is_literal (option_map kind_of raw) false ≡ true
integer_literal_is_literal_raw = cast_to_more is_integer_literal is_literal
    (λ k casts. or_right (is_text_literal k) _ (
    or_left (is_integer_literal k) _ casts))

pub integer_literal_is_literal : (c : Cursor)
    → casts_at kind_of is_integer_literal c ≡ true → casts_at kind_of is_literal c ≡ true
integer_literal_is_literal c = integer_literal_is_literal_raw (kind c)

pub float_literal_is_literal_raw : (raw : Option ℕ)
    → option_map_or is_float_literal (option_map kind_of raw) false ≡ true
    → option_map_or is_literal (option_map kind_of raw) false ≡ true
float_literal_is_literal_raw = cast_to_more is_float_literal is_literal
    (λ k casts. or_right (is_text_literal k) _ (
    or_right (is_integer_literal k) _ (
    or_left (is_float_literal k) _ casts)))

pub float_literal_is_literal : (c : Cursor)
    → casts_at kind_of is_float_literal c ≡ true → casts_at kind_of is_literal c ≡ true
float_literal_is_literal c = float_literal_is_literal_raw (kind c)

pub boolean_literal_is_literal_raw : (raw : Option ℕ)
    → option_map_or is_boolean_literal (option_map kind_of raw) false ≡ true
    → option_map_or is_literal (option_map kind_of raw) false ≡ true
boolean_literal_is_literal_raw = cast_to_more is_boolean_literal is_literal
    (λ k casts. or_right (is_text_literal k) _ (
    or_right (is_integer_literal k) _ (
    or_right (is_float_literal k) _ (
    or_left (is_boolean_literal k) _ casts))))

pub boolean_literal_is_literal : (c : Cursor)
    → casts_at kind_of is_boolean_literal c ≡ true → casts_at kind_of is_literal c ≡ true
boolean_literal_is_literal c = boolean_literal_is_literal_raw (kind c)

pub moment_literal_is_literal_raw : (raw : Option ℕ)
    → option_map_or is_moment_literal (option_map kind_of raw) false ≡ true
    → option_map_or is_literal (option_map kind_of raw) false ≡ true
moment_literal_is_literal_raw = cast_to_more is_moment_literal is_literal
    (λ k casts. or_right (is_text_literal k) _ (
    or_right (is_integer_literal k) _ (
    or_right (is_float_literal k) _ (
    or_right (is_boolean_literal k) _ casts))))

pub moment_literal_is_literal : (c : Cursor)
    → casts_at kind_of is_moment_literal c ≡ true → casts_at kind_of is_literal c ≡ true
moment_literal_is_literal c = moment_literal_is_literal_raw (kind c)

pub literal_is_value_raw : (raw : Option ℕ)
    → option_map_or is_literal (option_map kind_of raw) false ≡ true
    → option_map_or is_value (option_map kind_of raw) false ≡ true
literal_is_value_raw = cast_to_more is_literal is_value
    (λ k casts. or_left (is_literal k) _ casts)

pub literal_is_value : (c : Cursor)
    → casts_at kind_of is_literal c ≡ true → casts_at kind_of is_value c ≡ true
literal_is_value c = literal_is_value_raw (kind c)

pub composed_is_value_raw : (raw : Option ℕ)
    → option_map_or is_composed (option_map kind_of raw) false ≡ true
    → option_map_or is_value (option_map kind_of raw) false ≡ true
composed_is_value_raw = cast_to_more is_composed is_value
    (λ k casts. or_right (is_literal k) _ (
    or_left (is_composed k) _ casts))

pub composed_is_value : (c : Cursor)
    → casts_at kind_of is_composed c ≡ true → casts_at kind_of is_value c ≡ true
composed_is_value c = composed_is_value_raw (kind c)

pub reference_is_value_raw : (raw : Option ℕ)
    → option_map_or is_reference (option_map kind_of raw) false ≡ true
    → option_map_or is_value (option_map kind_of raw) false ≡ true
reference_is_value_raw = cast_to_more is_reference is_value
    (λ k casts. or_right (is_literal k) _ (
    or_right (is_composed k) _ (
    or_left (is_reference k) _ casts)))

pub reference_is_value : (c : Cursor)
    → casts_at kind_of is_reference c ≡ true → casts_at kind_of is_value c ≡ true
reference_is_value c = reference_is_value_raw (kind c)

pub call_is_value_raw : (raw : Option ℕ)
    → option_map_or is_call (option_map kind_of raw) false ≡ true
    → option_map_or is_value (option_map kind_of raw) false ≡ true
call_is_value_raw = cast_to_more is_call is_value
    (λ k casts. or_right (is_literal k) _ (
    or_right (is_composed k) _ (
    or_right (is_reference k) _ casts)))

pub call_is_value : (c : Cursor)
    → casts_at kind_of is_call c ≡ true → casts_at kind_of is_value c ≡ true
call_is_value c = call_is_value_raw (kind c)
