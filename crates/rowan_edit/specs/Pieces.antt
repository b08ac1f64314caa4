-- What the pieces of another order of a node's children are.
use Rattle.std.specs.Prelude.{ℕ, Bool, true, nat_lt, List, [], ◌∷◌, slice_get}
use Rattle.std.specs.List.{flat_map}
use Rattle.std.specs.Option.{option_to_list}
use Rattle.rowan_green.specs.Term.{Term}
use Rattle.rowan_edit.specs.declared.pieces.Piece.{Piece}
use Rattle.rowan_edit.specs.declared.pieces.Piece.TheVariants.{New, Old}

-- the piece is a new term, or one of so many children
abbrev pub is_within : ℕ → Piece → Bool
is_within count (New t) = true
is_within count (Old i) = nat_lt i count

-- what a piece is among these children: a new term, or the child at an index
abbrev pub piece_in : List Term → Piece → List Term
piece_in children (New t) = t ∷ []
piece_in children (Old i) = option_to_list (slice_get children i)

-- what pieces are among these children, one after the other
abbrev pub named_in : List Term → List Piece → List Term
named_in children pieces = flat_map (piece_in children) pieces
