-- A slice of text is stored as its node and the ends of its range.
use Rattle.std.specs.Prelude.{ℕ, refl}
use Rattle.std.specs.Coded.{Coded, code_by, coded×, coded_ℕ}
use Rattle.rowan_table.specs.Cursor.{Cursor}
use Rattle.rowan_cursor.specs.CursorCode.{coded_cursor}
use Rattle.rowan_table.specs.SyntaxText.{TextSlice}

abbrev pub coded_slice : Coded TextSlice
coded_slice =
    code_by (Cursor × (ℕ × ℕ)) (coded× coded_cursor (coded× coded_ℕ coded_ℕ))
    (λ s. (s.node, (s.range.start, s.range.end)))
    (λ p. record { node = p.0; range = record { start = p.1.0; end = p.1.1 } }) (λ _. refl)
