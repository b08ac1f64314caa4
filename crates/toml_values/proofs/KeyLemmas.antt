-- The ranges of a key and of those ahead of it, one by one.
use Rattle.std.proofs.Common.{◌≡◌, ℕ, suc, ◌+◌, ◌<◌, List, [], ◌∷◌, ◌++◌, drop, get_or, length}
use Rattle.std.proofs.Common.{Option, Some, None, refl, sym, ◌∙◌, ap, add-one, append_assoc, drop-cons}
use Rattle.std.specs.Prelude.{slice_get}
use Rattle.std.specs.Option.{option_and_then, option_map_or}
use Rattle.rowan_green.specs.Span.{Span}
use Rattle.toml_values.specs.Keys.{ranges_from}
use Rattle.toml_values.specs.declared.value.Key.{Key}

-- where no key is ahead, there is no range
pub no_range : (keys turns : List Key) (number : Option ℕ)
    → option_and_then (slice_get keys) number ≡ None → ranges_from keys turns number ≡ []
no_range keys [] number is = refl
no_range keys (turn ∷ turns) number is =
    ap (λ found. option_map_or (λ (key : Key). key.range ∷ ranges_from keys turns key.earlier) found []) is

-- a range moves from those that are left to those so far
pub range_pushed : (keys turns : List Key) (i : ℕ) (turn key : Key) (number : Option ℕ)
    (before all : List Span) → turn ≡ get_or turns i turn → i < length turns
    → option_and_then (slice_get keys) number ≡ Some key
    → before ++ ranges_from keys (drop i turns) number ≡ all
    → (before ++ key.range ∷ []) ++ ranges_from keys (drop (i + 1) turns) key.earlier ≡ all
range_pushed keys turns i turn key number before all is here found so_far =
    let rest = drop (suc i) turns in
    let at : drop i turns ≡ turn ∷ rest = drop-cons turns i turn here ∙ ap (λ y. y ∷ rest) (sym is) in
    let next : ranges_from keys (turn ∷ rest) number ≡ key.range ∷ ranges_from keys rest key.earlier =
    ap (λ o. option_map_or (λ (k : Key). k.range ∷ ranges_from keys rest k.earlier) o []) found in
    append_assoc before (key.range ∷ []) (ranges_from keys (drop (i + 1) turns) key.earlier)
    ∙ ap (λ n. before ++ key.range ∷ ranges_from keys (drop n turns) key.earlier) (add-one i)
    ∙ sym (ap (λ xs. before ++ xs) (ap (λ ts. ranges_from keys ts number) at ∙ next))
    ∙ so_far
