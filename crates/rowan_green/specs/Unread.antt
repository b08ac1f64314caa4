-- What is still to be read of green nodes by a call that goes through them with a list of children,
-- of which the last come first. A comparison has a list of rows: the children of two nodes.
use Rattle.std.specs.Fmt.{HasWritten, IsPlainFormatter}
use Rattle.std.specs.declared.fmt.Formatter.{Formatter}
use Rattle.std.specs.Prelude.{◌≡◌, ℕ, ◌+◌, List, [], ◌∷◌, ◌++◌, Bool, true, ◌&&◌, Option, Some}
use Rattle.std.specs.Prelude.{None, map}
use Rattle.std.specs.Borrow.{Bor}
use lib.Pointwise.{pointwise}
use Rattle.rowan_green.specs.declared.green.node.GreenChild.{GreenChild}
use Rattle.rowan_green.specs.Term.{Term}
use Rattle.rowan_green.specs.View.{child_term}
use Rattle.rowan_green.specs.Sizes.{children_size}
use Rattle.rowan_green.specs.Same.{same_term}

-- whether the children of two nodes are the same, pair by pair
abbrev pub same_row : Bor (List GreenChild) × Bor (List GreenChild) → Bool
same_row r = pointwise same_term (map child_term r.0.now) (map child_term r.1.now)

-- whether those of each row are
abbrev pub same_rows : List (Bor (List GreenChild) × Bor (List GreenChild)) → Bool
same_rows [] = true
same_rows (r ∷ rs) = same_row r && same_rows rs

-- how large the children on the left are, with 1 for the row
abbrev pub row_size : Bor (List GreenChild) × Bor (List GreenChild) → ℕ
row_size r = children_size r.0.now + 1

abbrev pub rows_size : List (Bor (List GreenChild) × Bor (List GreenChild)) → ℕ
rows_size [] = 0
rows_size (r ∷ rs) = row_size r + rows_size rs

-- the children of all lists, those of the last list first
abbrev pub unread_terms : List (Bor (List GreenChild)) → List Term
unread_terms [] = []
unread_terms (cs ∷ rest) = unread_terms rest ++ map child_term cs.now

-- how large they are, with 1 for each list
abbrev pub unread_size : List (Bor (List GreenChild)) → ℕ
unread_size [] = 0
unread_size (cs ∷ rest) = children_size cs.now + unread_size rest + 1

-- the children that come next, and then those of the lists; where none come next, nothing is left
abbrev pub left_terms : Option (Bor (List GreenChild)) → List (Bor (List GreenChild)) → List Term
left_terms (Some cs) rest = map child_term cs.now ++ unread_terms rest
left_terms None rest = []

abbrev pub left_size : Option (Bor (List GreenChild)) → List (Bor (List GreenChild)) → ℕ
left_size (Some cs) rest = children_size cs.now + unread_size rest + 1
left_size None rest = 0

-- g is f after writing the text, but for an end of it that is left
abbrev pub WritesUpTo : {W : Type 0} → (W → List ℕ → W → Type 0) → Formatter W → List ℕ → List ℕ
    → Formatter W → Type 0
WritesUpTo took f text left g =
    IsPlainFormatter f → (bs : List ℕ) × (HasWritten took f bs g × (text ≡ bs ++ left))
