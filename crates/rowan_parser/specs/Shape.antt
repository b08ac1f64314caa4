-- What events make: nodes that are entered and left, tokens that are taken, and the forest that
-- these are the word of.
use Rattle.std.specs.Prelude.{◌≡◌, ℕ, zero, suc, ◌+◌, ◌-◌, ◌<◌, List, [], ◌∷◌, ◌++◌, length}
use Rattle.rowan_events.specs.Log.{outer_at}
use Rattle.rowan_events.specs.declared.event.Event.{Event}
use Rattle.rowan_events.specs.declared.event.Event.TheVariants.{Open, Around, Close, Nothing}
use Rattle.rowan_events.specs.declared.event.Event.TheVariants as event

pub data Step : Type 0 where
  Enter : ℕ → Step
  Take : Step
  TakeAs : (kind count : ℕ) → Step
  Exit : Step

-- the kinds of the nodes around one, from the inside out; the first begins so many events on
abbrev pub around : ℕ → List Event → List ℕ
around zero events = []
around (suc n) [] = []
around (suc zero) (Open kind outer ∷ events) = kind.0 ∷ around outer events
around (suc zero) (Around kind outer ∷ events) = kind.0 ∷ around outer events
around (suc zero) (Close ∷ events) = []
around (suc zero) (event.Token ∷ events) = []
around (suc zero) (event.Joined kind n ∷ events) = []
around (suc zero) (Nothing ∷ events) = []
around (suc (suc n)) (e ∷ events) = around (suc n) events

-- nodes of these kinds are entered, the last one first
abbrev pub enters : List ℕ → List Step
enters [] = []
enters (kind ∷ kinds) = enters kinds ++ Enter kind ∷ []

-- The steps that events say. This is all that a tree needs of them.
abbrev pub steps : List Event → List Step
steps [] = []
steps (Open kind outer ∷ events) =
    enters (around outer events) ++ Enter kind.0 ∷ steps events
steps (Around kind outer ∷ events) = steps events
steps (Close ∷ events) = Exit ∷ steps events
steps (event.Token ∷ events) = Take ∷ steps events
steps (event.Joined kind n ∷ events) = TakeAs kind.0 n ∷ steps events
steps (Nothing ∷ events) = steps events

-- nodes and tokens, side by side
pub data Forest : Type 0 where
  none : Forest
  token_then : Forest → Forest
  joined_then : (kind count : ℕ) → Forest → Forest
  node_then : (kind : ℕ) (inside : Forest) → Forest → Forest

abbrev pub word : Forest → List Step
word none = []
word (token_then f) = Take ∷ word f
word (joined_then kind n f) = TakeAs kind n ∷ word f
word (node_then kind inside f) = Enter kind ∷ (word inside ++ Exit ∷ word f)

-- the one, and behind it the other
abbrev pub joined : Forest → Forest → Forest
joined none g = g
joined (token_then f) g = token_then (joined f g)
joined (joined_then kind n f) g = joined_then kind n (joined f g)
joined (node_then kind inside f) g = node_then kind inside (joined f g)

-- how many tokens that are no trivia it takes
abbrev pub token_count : Forest → ℕ
token_count none = 0
token_count (token_then f) = suc (token_count f)
token_count (joined_then kind n f) = n + token_count f
token_count (node_then kind inside f) = token_count inside + token_count f

-- These events make a forest, whatever stands behind them.
pub record IsPart (events : List Event) (f : Forest) : Type 0 where
  pub spells : (more : List Event) → steps (events ++ more) ≡ word f ++ steps more

-- How far event number i is from number n, counted from 1, of those behind so many events.
abbrev pub reach : ℕ → ℕ → ℕ → ℕ
reach i len zero = 0
reach i len (suc n) = (len - i) + n

-- These events make one node, whatever stands behind them. Event number i is where a node around it
-- is to be noted: then that one is entered before it.
pub record IsNode (i : ℕ) (events : List Event) (kind : ℕ) (inside : Forest) : Type 0 where
  pub there : i < length events
  pub alone : outer_at i 0 events ≡ events
  pub spells : (n : ℕ) (more : List Event)
      → steps (outer_at i (reach i (length events) n) events ++ more)
      ≡ enters (around n more) ++ Enter kind ∷ (word inside ++ Exit ∷ steps more)
