-- What the author of a grammar says of a function: which nodes it makes, between the parser before
-- the call and the one behind it. Where memory ran out nothing is said, since `parse` has no tree
-- then.
use Rattle.std.specs.Prelude.{◌≡◌, ◌⊎◌, ℕ, zero, suc, ◌+◌, IsTrue, All, List, [], ◌∷◌, ◌++◌, length}
use Rattle.rowan_green.specs.declared.green.SyntaxKind.{SyntaxKind}
use Rattle.rowan_events.specs.Log.{Seen, Place, Extent, closed_at}
use Rattle.rowan_parser.specs.Shape.{Forest, none, token_then, joined_then, node_then, joined}
use Rattle.rowan_parser.specs.Shape.{IsPart, IsNode}
use Rattle.rowan_events.specs.declared.event.Event.{Event}

-- ---- one node

-- Behind these events there is one node, over this forest, and its marker is there.
pub record HasNode (before events : List Event) (marker kind : ℕ) (f : Forest) : Type 0 where
  pub node : List Event
  pub i : ℕ
  pub joins : events ≡ before ++ node
  pub there : marker ≡ length before + i
  pub is : IsNode i node kind f

-- Since a parser was as it was, a node was begun, and since then this forest was made. Completed now,
-- or after more was made, it is a node over it.
pub record IsBegun (old s : Seen) (m : Place) (f : Forest) : Type 0 where
  pub was : IsTrue s.is_whole → IsTrue old.is_whole
  pub closes : IsTrue s.is_whole → (more : List Event) (g : Forest) → IsPart more g
      → (raw : SyntaxKind)
      → HasNode old.events (closed_at m raw (s.events ++ more)) m.at raw.0 (joined f g)

-- since then one node of this kind over this forest was made, and that is its marker
pub record IsEnded (old s : Seen) (marker : Extent) (kind : ℕ) (f : Forest) : Type 0 where
  pub was : IsTrue s.is_whole → IsTrue old.is_whole
  pub is : IsTrue s.is_whole → HasNode old.events s.events marker.at kind f

-- since then one node of such a shape was made, and that is its marker
pub record IsNodeOf (P : Forest → Type 0) (old s : Seen) (marker : Extent) : Type 0 where
  pub kind : ℕ
  pub inside : Forest
  pub is : P (node_then kind inside none)
  pub ended : IsEnded old s marker kind inside

-- ---- lists with separators

-- these forests, a token behind each
abbrev pub each_ended : List Forest → Forest
each_ended [] = none
each_ended (f ∷ fs) = joined f (token_then (each_ended fs))

-- elements, a separator behind each, and perhaps one more element
pub record IsRow (P : Forest → Type 0) (items : List Forest) (last : Forest) : Type 0 where
  pub each : All P items
  pub is_last : (last ≡ none) ⊎ P last

-- A node was begun, and since then this was made, and then elements, each with a separator.
pub record HasItems (P : Forest → Type 0) (old s : Seen) (m : Place) (front : Forest)
    : Type 0 where
  pub items : List Forest
  pub each : All P items
  pub begun : IsBegun old s m (joined front (each_ended items))

-- Behind these there may be an element with no separator.
pub record HasList (P : Forest → Type 0) (old s : Seen) (m : Place) (front : Forest)
    : Type 0 where
  pub items : List Forest
  pub last : Forest
  pub row : IsRow P items last
  pub begun : IsBegun old s m (joined (joined front (each_ended items)) last)

-- One node of this kind was made: over this, elements with separators between them, and a token
-- that may be missing.
pub record IsListNode (P : Forest → Type 0) (front : Forest) (old s : Seen) (marker : Extent)
    (kind : ℕ) : Type 0 where
  pub items : List Forest
  pub last : Forest
  pub row : IsRow P items last
  pub back : Forest
  pub is_back : (back ≡ none) ⊎ (back ≡ token_then none)
  pub ended : IsEnded old s marker kind
      (joined (joined (joined front (each_ended items)) last) back)

-- a node of this kind over such a list
pub record IsListOf (P : Forest → Type 0) (front : Forest) (kind : ℕ) (f : Forest) : Type 0 where
  pub items : List Forest
  pub last : Forest
  pub row : IsRow P items last
  pub back : Forest
  pub is_back : (back ≡ none) ⊎ (back ≡ token_then none)
  pub is : f ≡ node_then kind (joined (joined (joined front (each_ended items)) last) back) none

-- ---- what a function makes that gives no marker

pub record MakesPart (before events : List Event) (f : Forest) : Type 0 where
  pub part : List Event
  pub joins : events ≡ before ++ part
  pub is : IsPart part f

-- since then a forest of this shape was made
pub record IsMade (P : Forest → Type 0) (old s : Seen) : Type 0 where
  pub forest : Forest
  pub is : P forest
  pub was : IsTrue s.is_whole → IsTrue old.is_whole
  pub makes : IsTrue s.is_whole → MakesPart old.events s.events forest

abbrev pub tokens : ℕ → Forest
tokens zero = none
tokens (suc n) = token_then (tokens n)

-- nothing, or tokens in a node of this kind, as the calls make that recover
abbrev pub IsErrorNode : ℕ → Forest → Type 0
IsErrorNode kind f = (f ≡ none) ⊎ ((n : ℕ) × (f ≡ node_then kind (tokens n) none))

-- ---- for proofs

-- all but the last node or token
abbrev pub init_of : Forest → Forest → Forest
init_of none f = none
init_of (token_then g) f = f
init_of (joined_then kind n g) f = f
init_of (node_then kind inside g) f = f

abbrev pub init : Forest → Forest
init none = none
init (token_then f) = init_of f (token_then (init f))
init (joined_then kind n f) = init_of f (joined_then kind n (init f))
init (node_then kind inside f) = init_of f (node_then kind inside (init f))
