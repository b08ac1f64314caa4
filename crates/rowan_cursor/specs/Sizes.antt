-- How large what stands at a cursor is. A function that calls itself for each child of a node ends
-- by this measure.
use Rattle.std.specs.Prelude.{ℕ, ◌<◌, List, [], ◌∷◌, map}
use Rattle.std.specs.Option.{option_map_or}
use Rattle.rowan_green.specs.Sizes.{term_size}
use Rattle.rowan_table.specs.Cursor.{Cursor, term_at}
use Rattle.rowan_table.specs.Moves.{Element, place_of}

-- how large what stands at a cursor is: 2 for each node at and below it, and 1 for each token
abbrev pub size_at : Cursor → ℕ
size_at c = option_map_or term_size (term_at c) 0

-- each of these is smaller than that
abbrev pub AreSmaller : ℕ → List Cursor → Type 0
AreSmaller n [] = Unit {0}
AreSmaller n (c ∷ cs) = (size_at c < n) × AreSmaller n cs

abbrev pub AreSmallerElements : ℕ → List Element → Type 0
AreSmallerElements n es = AreSmaller n (map place_of es)
