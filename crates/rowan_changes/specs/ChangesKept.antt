-- What is kept of changes: that they stand in order, and where each ends in the new text.
use Rattle.std.specs.Prelude.{◌≡◌, ℕ, ◌+◌, ◌-◌, ◌≤◌, false, List, [], ◌∷◌}
use Rattle.std.specs.List.{list_any, filter}
use Rattle.rowan_green.specs.Fits.{byte_limit}
use Rattle.rowan_green.specs.Span.{Span}
use Rattle.rowan_changes.specs.declared.changes.Change.{Change}
use Rattle.rowan_changes.specs.Changes.{old_bytes, new_bytes, is_ahead, overlaps}

-- from an offset on, each change ends before the next one starts, or where it starts
abbrev pub Follow : ℕ → List Change → Type 0
Follow at [] = Unit {0}
Follow at (c ∷ cs) =
    (at ≤ c.range.start) × ((c.range.start ≤ c.range.end) × Follow c.range.end cs)

-- where the last one ends, or else the offset
abbrev pub last_end : ℕ → List Change → ℕ
last_end at [] = at
last_end at (c ∷ cs) = last_end c.range.end cs

-- the changes stand in order, and the text behind them ends within the limit
pub record CanBeKept (list : List Change) : Type 0 where
  pub follow : Follow 0 list
  pub fits : last_end 0 list + new_bytes list ≤ byte_limit + old_bytes list

-- where each ends in the new text, if earlier ones took some bytes away and put others
abbrev pub AreEnds : ℕ → ℕ → List Change → List ℕ → Type 0
AreEnds old new [] [] = Unit {0}
AreEnds old new [] (x ∷ xs) = ⊥
AreEnds old new (c ∷ cs) [] = ⊥
AreEnds old new (c ∷ cs) (x ∷ xs) =
    let taken = old + (c.range.end - c.range.start) in
    let put = new + c.new_len in
    (x + taken ≡ c.range.end + put) × AreEnds taken put cs xs

pub record AreKept (list : List Change) (new_ends : List ℕ) : Type 0 where
  pub follow : Follow 0 list
  pub ends : AreEnds 0 0 list new_ends

-- a range behind a change with which the text begins, in the new text
abbrev pub behind_front : Change → Span → Span
behind_front f r =
    let start = f.new_len + (r.start - f.range.end) in
    record { start = start; end = start + (r.end - r.start) }

-- no change overlaps a range, and those ahead of it are as one that begins with the text
pub record IsFront (list : List Change) (r : Span) (front : Change) : Type 0 where
  pub range : r.start ≤ r.end
  pub apart : list_any (overlaps r) list ≡ false
  pub start : front.range.start ≡ 0
  pub before : front.range.end ≤ r.start
  pub none : front.range.end ≡ 0 → r.end ≡ 0 → front.new_len ≡ 0
  pub sum : front.new_len + old_bytes (filter (is_ahead r) list)
      ≡ front.range.end + new_bytes (filter (is_ahead r) list)
  pub order : old_bytes (filter (is_ahead r) list) ≤ front.range.end
