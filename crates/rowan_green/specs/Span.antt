-- Ranges of a text: where they start and where they end, in bytes.
use Rattle.std.specs.Prelude.{ℕ, ◌<◌, ◌≤◌}
use Rattle.std.specs.Ordering.{nat_cmp, ord_max, ord_min}

pub record Span : Type 0 where
  pub start : ℕ
  pub end : ℕ

-- the offset lies in the range, or is its end
pub record Holds (range : Span) (offset : ℕ) : Type 0 where
  pub from_start : range.start ≤ offset
  pub to_end : offset ≤ range.end

-- from the greater start to the lesser end
abbrev pub intersection : Span → Span → Span
intersection a b =
    record { start = ord_max nat_cmp a.start b.start; end = ord_min nat_cmp a.end b.end }

-- the first range ends before the second starts, or where it starts
abbrev pub EndsBefore : Span → Span → Type 0
EndsBefore a b = a.end ≤ b.start

-- each of the two ranges starts before the other ends
abbrev pub Overlaps : Span → Span → Type 0
Overlaps a b = (b.start < a.end) × (a.start < b.end)

-- the second range ends before the first starts, or where it starts, and the first does not also
-- end before the second
abbrev pub StartsBehind : Span → Span → Type 0
StartsBehind a b = (b.start < a.end) × (b.end ≤ a.start)
