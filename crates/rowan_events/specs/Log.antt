-- The value of a parser: what it has left and what it has done. And what each call makes of it.
use Rattle.std.specs.Prelude.{◌≡◌, ◌==◌, ◌&&◌, ℕ, zero, suc, ◌+◌, ◌-◌, min, Bool, true, false, cond}
use Rattle.std.specs.Prelude.{if◌then◌else◌, IsTrue, List, [], ◌∷◌, ◌++◌, length, drop}
use Rattle.std.specs.Prelude.{Option, Some, None, slice_get, slice_set}
use Rattle.rowan_green.specs.declared.green.SyntaxKind.{SyntaxKind}
use Rattle.rowan_events.specs.Told.{Told}
use Rattle.rowan_events.specs.declared.event.Event.{Event}
use Rattle.rowan_events.specs.declared.event.Event.TheVariants.{Open, Around, Close, Nothing}
use Rattle.rowan_events.specs.declared.event.Event.TheVariants as event
use Rattle.rowan_events.specs.declared.parser.Spot.{Spot}
use Rattle.rowan_events.specs.declared.parser.Spot.TheVariants.{Here, Behind, Given, Over}

-- A token that is no trivia: its raw kind, its text and the offset at which this starts, whether it
-- touches the token before, and whether a line ended between these two.
pub record Piece : Type 0 where
  pub kind : ℕ
  pub text : List ℕ
  pub start : ℕ
  pub is_joined : Bool
  pub is_after_line : Bool

-- The tokens that are left, how many were taken, the events and the errors so far, and whether
-- there was memory for all of these.
pub record Seen : Type 0 where
  pub left : List Piece
  pub taken : ℕ
  pub events : List Event
  pub errors : List Told
  pub is_whole : Bool

-- What is left is as it should be, and so is all else unless memory ran out.
pub record Is (wanted got : Seen) : Type 0 where
  pub left : got.left ≡ wanted.left
  pub all : IsTrue got.is_whole → got ≡ wanted

-- Where a node begins, where the one begins around which it stands, if it stands around one, and
-- the number of its first token.
pub record Place : Type 0 where
  pub at : ℕ
  pub inner : Option ℕ
  pub first : ℕ

-- Where a node begins that ended, the number of its first token, and that of the one behind it.
pub record Extent : Type 0 where
  pub at : ℕ
  pub first : ℕ
  pub end : ℕ

-- ---- tokens

abbrev pub with_event : Event → Seen → Seen
with_event e s = record {
  left = s.left;
  taken = s.taken;
  events = s.events ++ e ∷ [];
  errors = s.errors;
  is_whole = s.is_whole;
}

-- the first of these tokens, which are left, is taken by this event; where none is, nothing is done
abbrev pub with_token : Event → List Piece → Seen → Seen
with_token e [] s = s
with_token e (t ∷ left) s = record {
  left = left;
  taken = suc s.taken;
  events = s.events ++ e ∷ [];
  errors = s.errors;
  is_whole = s.is_whole;
}

abbrev pub bumped : Seen → Seen
bumped s = with_token event.Token s.left s

abbrev pub bumped_as : ℕ → Seen → Seen
bumped_as kind s = with_token (event.Joined (record { 0 = kind }) 1) s.left s

-- so many tokens are taken as one leaf
abbrev pub with_joined : ℕ → ℕ → Seen → Seen
with_joined kind zero s = s
with_joined kind (suc n) s = record {
  left = drop (suc n) s.left;
  taken = s.taken + suc n;
  events = s.events ++ event.Joined (record { 0 = kind }) (suc n) ∷ [];
  errors = s.errors;
  is_whole = s.is_whole;
}

-- so many tokens, or as many as are left
abbrev pub glued : ℕ → ℕ → Seen → Seen
glued kind n s = with_joined kind (min (length s.left) n) s

-- ---- errors

-- it stands where the parser was, and not where the grammar said
abbrev pub is_by_place : Spot → Bool
is_by_place Here = true
is_by_place Behind = true
is_by_place (Given range) = false
is_by_place (Over first end) = false

abbrev pub stands_at : ℕ → Option Told → Bool
stands_at place None = false
stands_at place (Some e) = is_by_place e.spot && (e.place == place)

-- a second complaint of one place is not noted
abbrev pub noted : ℕ → Spot → List ℕ → List Told → List Told
noted place spot message errors =
    if stands_at place (slice_get errors (length errors - 1)) then errors
    else errors ++ record { place = place; spot = spot; message = message } ∷ []

abbrev pub with_errors : List Told → Seen → Seen
with_errors errors s = record {
  left = s.left;
  taken = s.taken;
  events = s.events;
  errors = errors;
  is_whole = s.is_whole;
}

abbrev pub complained_at : Spot → List ℕ → Seen → Seen
complained_at spot message s = with_errors (noted s.taken spot message s.errors) s

-- of the current token
abbrev pub complained : List ℕ → Seen → Seen
complained message s = complained_at Here message s

-- of what is missing behind the last token that was taken
abbrev pub missed : List ℕ → Seen → Seen
missed message s = complained_at Behind message s

-- of what the grammar says
abbrev pub told_of : Spot → List ℕ → Seen → Seen
told_of spot message s =
    with_errors (s.errors ++ record { place = s.taken; spot = spot; message = message } ∷ []) s

-- ---- nodes

abbrev pub around_by : ℕ → Event → Event
around_by d (Open kind outer) = Open kind d
around_by d (Around kind outer) = Around kind d
around_by d Close = Close
around_by d event.Token = event.Token
around_by d (event.Joined kind n) = event.Joined kind n
around_by d Nothing = Nothing

-- event number i says that the node around its node begins so many events on
abbrev pub outer_at : ℕ → ℕ → List Event → List Event
outer_at i d [] = []
outer_at zero d (e ∷ events) = around_by d e ∷ events
outer_at (suc i) d (e ∷ events) = e ∷ outer_at i d events

abbrev pub closed_by : Option ℕ → ℕ → SyntaxKind → List Event → List Event
closed_by None at kind events = slice_set events at (Open kind 0) ++ Close ∷ []
closed_by (Some inner) at kind events =
    outer_at inner (at - inner) (slice_set events at (Around kind 0)) ++ Close ∷ []

-- The node that began at a place has this kind, and the innermost open node ends here.
abbrev pub closed_at : Place → SyntaxKind → List Event → List Event
closed_at place kind events = closed_by place.inner place.at kind events

abbrev pub completed : Place → ℕ → Seen → Seen
completed place kind s = record {
  left = s.left;
  taken = s.taken;
  events = closed_at place (record { 0 = kind }) s.events;
  errors = s.errors;
  is_whole = s.is_whole;
}

-- the node that was begun at a place and ends now
abbrev pub extent_of : Place → Seen → Extent
extent_of place s = record { at = place.at; first = place.first; end = s.taken }

-- the place around a node that ended
abbrev pub place_around : Extent → Seen → Place
place_around e s = record { at = length s.events; inner = Some e.at; first = e.first }

-- ---- recovery

abbrev pub begun_at : Seen → Place
begun_at s = record { at = length s.events; inner = None; first = s.taken }

-- a node of this kind around the next token
abbrev pub with_error_node : ℕ → Seen → Seen
with_error_node kind s = completed (begun_at s) kind (bumped (with_event Nothing s))

-- the next token is of these kinds, or there is none
abbrev pub stops_here : (ℕ → Bool) → List Piece → Bool
stops_here stops [] = true
stops_here stops (t ∷ left) = stops t.kind

-- Of these tokens, which are left, those up to the first one are taken at which it halts. It halts by
-- a level and a kind, and each token that is taken leads to another level.
abbrev pub skipped_by : (ℕ → ℕ → Bool) → (ℕ → ℕ → ℕ) → ℕ → List Piece → Seen → Seen
skipped_by halts next n [] s = s
skipped_by halts next n (t ∷ left) s = cond (halts n t.kind) s
    (skipped_by halts next (next n t.kind) left (with_token event.Token (t ∷ left) s))

-- up to the first token of these kinds
abbrev pub skipped : (ℕ → Bool) → List Piece → Seen → Seen
skipped stops left s = skipped_by (λ n k. stops k) (λ n k. n) 0 left s

-- one level deeper behind a token that opens, and one less behind one that closes
abbrev pub level_behind : (ℕ → Bool) → (ℕ → Bool) → ℕ → ℕ → ℕ
level_behind opens closes n k = if opens k then suc n else if closes k then n - 1 else n

-- it halts at these kinds where no bracket is open
abbrev pub halts_outside : (ℕ → Bool) → ℕ → ℕ → Bool
halts_outside stops n k = (n == 0) && stops k

-- these tokens, if there are any, in a node of this kind
abbrev pub recovered : ℕ → (ℕ → Bool) → Seen → Seen
recovered kind stops s = cond (stops_here stops s.left) s
    (completed (begun_at s) kind (skipped stops s.left (with_event Nothing s)))

-- the same, and what stands in brackets that open among these tokens does not stop
abbrev pub recovered_over : ℕ → (stops opens closes : ℕ → Bool) → Seen → Seen
recovered_over kind stops opens closes s = cond (stops_here stops s.left) s
    (completed (begun_at s) kind
    (skipped_by (halts_outside stops) (level_behind opens closes) 0 s.left
    (with_event Nothing s)))

-- unless it is so, a node of this kind around the next token
abbrev pub refused_unless : Bool → ℕ → Seen → Seen
refused_unless stays kind s = cond stays s (with_error_node kind s)

-- a complaint, and all that is left in a node of this kind
abbrev pub ended : ℕ → List ℕ → Seen → Seen
ended kind message s = recovered kind (λ _. false) (complained message s)
