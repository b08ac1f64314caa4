-- A change is stored as its range and its new length.
use Rattle.std.specs.Prelude.{ℕ, List, refl}
use Rattle.std.specs.Coded.{Coded, code_by, coded×, coded_ℕ, coded_list}
use Rattle.rowan_changes.specs.declared.changes.Change.{Change}

abbrev pub coded_change : Coded Change
coded_change =
    code_by (ℕ × (ℕ × ℕ)) (coded× coded_ℕ (coded× coded_ℕ coded_ℕ))
    (λ c. (c.range.start, (c.range.end, c.new_len)))
    (λ p. record { range = record { start = p.0; end = p.1.0 }; new_len = p.1.1 }) (λ _. refl)

abbrev pub coded_changes : Coded (List Change)
coded_changes = coded_list coded_change
