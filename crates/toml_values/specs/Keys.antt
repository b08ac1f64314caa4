-- The parts of keys that lead to a value.
use Rattle.std.specs.Prelude.{ℕ, List, [], ◌∷◌, ◌++◌, Option, slice_get}
use Rattle.std.specs.Option.{option_and_then, option_flatten, option_map_or}
use Rattle.rowan_green.specs.Span.{Span}
use Rattle.toml_values.specs.declared.value.Key.{Key}
use Rattle.toml_values.specs.declared.value.ValueRef.{ValueRef}

-- the ranges of a key and of those ahead of it that lead to the same value, at most as many as
-- the second list is long
abbrev pub ranges_from : List Key → List Key → Option ℕ → List Span
ranges_from keys [] number = []
ranges_from keys (turn ∷ turns) number =
    option_map_or (λ (key : Key). key.range ∷ ranges_from keys turns key.earlier)
    (option_and_then (slice_get keys) number) []

-- the ranges of all parts that lead to a value, the last one in the text first
abbrev pub key_ranges_of : ValueRef → List Span
key_ranges_of value = ranges_from value.values.now.keys.items value.values.now.keys.items
    (option_flatten (slice_get value.values.now.last_keys.items value.place))

-- the parts of keys, with one more that leads to the value at a place
abbrev pub with_key : List Key → List (Option ℕ) → ℕ → Span → List Key
with_key keys last_keys place range =
    option_map_or (λ last. keys ++ record { range = range; earlier = last } ∷ []) (slice_get last_keys place) keys
