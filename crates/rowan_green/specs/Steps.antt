-- Counters of the steps of searches: comparisons of a child's range, and visits of nodes.
-- A counter has 64 bits, and stays at its greatest value.
use Rattle.std.specs.Prelude.{ℕ, ◌+◌, ◌-◌, ◌<◌, ◌^◌, min}

pub record Tally : Type 0 where
  pub comparisons : ℕ
  pub visits : ℕ

-- the greatest value of a counter
abbrev pub count_limit : ℕ
count_limit = 2 ^ 64 - 1

-- a counter after one more step
abbrev pub one_more : ℕ → ℕ
one_more n = min (n + 1) count_limit

-- the counter is greater than before, where it was not at its greatest value
abbrev pub Rises : ℕ → ℕ → Type 0
Rises old new = old < count_limit → old < new
