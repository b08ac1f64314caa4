-- The sets of a rule.
use Rattle.std.specs.Prelude.{ℕ, List, Option, Some, None, slice_get}
use Rattle.rowan_predictive.specs.declared.rules.Entry.{Entry}

abbrev pub first_in : Option Entry → ℕ
first_in None = 0
first_in (Some entry) = entry.facts.first.0

abbrev pub follow_in : Option Entry → ℕ
follow_in None = 0
follow_in (Some entry) = entry.facts.follow.0

abbrev pub first_set : List Entry → ℕ → ℕ
first_set entries i = first_in (slice_get entries i)

abbrev pub follow_set : List Entry → ℕ → ℕ
follow_set entries i = follow_in (slice_get entries i)
