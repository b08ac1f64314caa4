-- How much of a node's block stands before the children, and how much each child takes, in words of
-- eight bytes.
use Rattle.std.specs.Prelude.{ℕ}

-- the counts and the head
abbrev pub front_words : ℕ
front_words = 2

abbrev pub child_words : ℕ
child_words = 2
