-- What stands at a cursor, by the kinds of a language.
use Rattle.std.specs.Prelude.{ℕ, Bool, false}
use Rattle.std.specs.Option.{option_map_or}
use Rattle.rowan_table.specs.Cursor.{Cursor, kind}

-- whether it has a kind, by what raw kinds mean and when kinds are equal
abbrev pub has_kind : {K : Type 0} → (ℕ → K) → (K → K → Bool) → K → Cursor → Bool
has_kind meaning same k c = option_map_or (λ raw. same (meaning raw) k) (kind c) false
