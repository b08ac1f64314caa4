-- Which edge of a child an edit is at, or whether it takes the child away.
use Rattle.std.specs.Prelude.{◌≡◌, ℕ, ◌+◌, List}
use Rattle.rowan_terms.specs.Path.{Path}
use Rattle.rowan_green.specs.Term.{Term}
use Rattle.rowan_edit.specs.declared.syntax_editor.Edge.{Edge}
use Rattle.rowan_edit.specs.declared.syntax_editor.Edge.TheVariants.{Start, Whole, End}
use Rattle.rowan_changes.specs.Edit.{Edit}
use Rattle.rowan_edit.specs.Positions.{in_place, in_gap}

-- terms in the place of the children from one index to another
abbrev pub range_edit : Path → List Term → ℕ → ℕ → Edit
range_edit parent new from to = record { parent = parent; start = from; end = to; new = new }

abbrev pub at_edge : Edge → List Term → Path → ℕ → Edit
at_edge Start new = in_gap new
at_edge Whole new = in_place new
at_edge End new = λ p i. in_gap new p (i + 1)

-- the indexes from which and before which an edit at the edge of the child at an index takes away
abbrev pub IsAtEdge : Edge → ℕ → ℕ → ℕ → Type 0
IsAtEdge Start i from to = (from ≡ i) × (to ≡ i)
IsAtEdge Whole i from to = (from ≡ i) × (to ≡ i + 1)
IsAtEdge End i from to = (from ≡ i + 1) × (to ≡ i + 1)
