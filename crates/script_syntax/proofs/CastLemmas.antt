-- Written by rowan_grammar from script.ungram: change that, and not this file.
-- What casts to an alternative casts to the whole.
use Rattle.std.specs.Prelude.{◌≡◌, ℕ, Bool, true, false, Option, Some, None}
use Rattle.std.specs.Option.{option_map, option_map_or}
use Rattle.std.proofs.lemmas.Bool.{or_left, or_right}
use Rattle.script_syntax.specs.declared.kinds.Kind.{Kind}
use Rattle.script_syntax.specs.Casts.{is_declaration, is_function, is_union}
use Rattle.script_syntax.specs.Kinds.{kind_of}

cast_to_more : (p q : Kind → Bool) → ((k : Kind) → p k ≡ true → q k ≡ true)
    → (raw : Option ℕ)
    → option_map_or p (option_map kind_of raw) false ≡ true
    → option_map_or q (option_map kind_of raw) false ≡ true
cast_to_more p q more (Some raw) casts = more (kind_of raw) casts
cast_to_more p q more None casts = casts

pub function_is_declaration_raw : (raw : Option ℕ)
    → option_map_or is_function (option_map kind_of raw) false ≡ true
    → option_map_or is_declaration (option_map kind_of raw) false ≡ true
function_is_declaration_raw = cast_to_more is_function is_declaration
    (λ k casts. or_left (is_function k) _ casts)

pub union_is_declaration_raw : (raw : Option ℕ)
    → option_map_or is_union (option_map kind_of raw) false ≡ true
    → option_map_or is_declaration (option_map kind_of raw) false ≡ true
union_is_declaration_raw = cast_to_more is_union is_declaration
    (λ k casts. or_right (is_function k) _ casts)
