-- The events of the tree that actions make, from the last action to the first.
use Rattle.std.specs.Prelude.{ℕ, Bool, true, false, if◌then◌else◌, List, [], ◌∷◌}
use Rattle.rowan_events.specs.declared.event.Event.{Event}
use Rattle.rowan_events.specs.declared.event.Event.TheVariants as event
use Rattle.rowan_predictive.specs.declared.arranging.Pending.{Pending}
use Rattle.rowan_predictive.specs.declared.arranging.Pending.TheVariants.{Node, Chain}
use Rattle.rowan_predictive.specs.declared.arranging.Pending.TheVariants as pending
use Rattle.rowan_predictive.specs.declared.rules.Action.{Action}
use Rattle.rowan_predictive.specs.declared.rules.Action.TheVariants.{Open, Mark, Around, Close}
use Rattle.rowan_predictive.specs.declared.rules.Action.TheVariants.{Done, Skip}
use Rattle.rowan_predictive.specs.declared.rules.Action.TheVariants as action

-- The events of the actions behind. What ends among them and begins before, the innermost first,
-- and before a chain the nodes around what stands in it, the first one first. Whether the first of
-- the actions passes over a token.
pub record Arranged : Type 0 where
  pub events : List Event
  pub pending : List Pending
  pub is_skipping : Bool

abbrev pub opened : ℕ → List Event → List Event
opened kind events = event.Open (record { 0 = kind }) 0 ∷ events

-- the tokens that are passed over stand in a node of errors
abbrev pub errors_opened : Bool → ℕ → List Event → List Event
errors_opened true error events = opened error events
errors_opened false error events = events

abbrev pub errors_closed : Bool → List Event → List Event
errors_closed true events = events
errors_closed false events = event.Close ∷ events

abbrev pub with_events : List Event → Arranged → Arranged
with_events events a =
    record { events = events; pending = a.pending; is_skipping = a.is_skipping }

abbrev pub arranged_by : List Event → List Pending → Arranged
arranged_by events rest = record { events = events; pending = rest; is_skipping = false }

-- the innermost of what ends is a chain
abbrev pub is_in_chain : List Pending → Bool
is_in_chain [] = false
is_in_chain (Node ∷ rest) = false
is_in_chain (Chain ∷ rest) = true
is_in_chain (pending.Around kind ∷ rest) = true

-- a chain begins: the nodes around what stands in it begin, the last one first
abbrev pub chain_opened : List Pending → List Event → Arranged
chain_opened [] events = record { events = events; pending = []; is_skipping = false }
chain_opened (Node ∷ rest) events =
    record { events = events; pending = rest; is_skipping = false }
chain_opened (Chain ∷ rest) events =
    record { events = events; pending = rest; is_skipping = false }
chain_opened (pending.Around kind ∷ rest) events = chain_opened rest (opened kind events)

abbrev pub without_first : List Pending → List Pending
without_first [] = []
without_first (p ∷ rest) = rest

-- A node begins in a chain: then it begins where the chain does. Elsewhere it begins here.
abbrev pub around_opened : ℕ → List Pending → List Event → Arranged
around_opened kind rest events =
    if is_in_chain rest then (arranged_by events (pending.Around kind ∷ rest))
    else (arranged_by (opened kind events) rest)

-- a token before these that is taken, or where a node or a chain begins or ends
abbrev pub taken_before : Action → List Pending → List Event → Arranged
taken_before (Open kind) p events =
    record { events = opened kind events; pending = without_first p; is_skipping = false }
taken_before Mark p events = chain_opened p events
taken_before (Around kind) p events = around_opened kind (without_first p) events
taken_before Close p events =
    record { events = event.Close ∷ events; pending = Node ∷ p; is_skipping = false }
taken_before Done p events =
    record { events = events; pending = Chain ∷ p; is_skipping = false }
taken_before action.Token p events =
    record { events = event.Token ∷ events; pending = p; is_skipping = false }
taken_before Skip p events =
    record { events = events; pending = p; is_skipping = false }

abbrev pub is_skip : Action → Bool
is_skip Skip = true
is_skip (Open kind) = false
is_skip Mark = false
is_skip (Around kind) = false
is_skip Close = false
is_skip Done = false
is_skip action.Token = false

-- a token before these that is passed over
abbrev pub skipped_before : Arranged → Arranged
skipped_before a = record {
  events = event.Token ∷ errors_closed a.is_skipping a.events;
  pending = a.pending;
  is_skipping = true;
}

-- an action before these
abbrev pub before : ℕ → Action → Arranged → Arranged
before error e a =
    if is_skip e then skipped_before a
    else (taken_before e a.pending (errors_opened a.is_skipping error a.events))

abbrev pub nothing_behind : Arranged
nothing_behind = record { events = []; pending = []; is_skipping = false }

-- these actions, and behind them what was arranged
abbrev pub all_before : ℕ → List Action → Arranged → Arranged
all_before error [] a = a
all_before error (e ∷ es) a = before error e (all_before error es a)

abbrev pub with_skipped : ℕ → Arranged → List Event
with_skipped error a = errors_opened a.is_skipping error a.events

-- the events of these actions, where nodes of errors have this kind
abbrev pub arranged : ℕ → List Action → List Event
arranged error actions = with_skipped error (all_before error actions nothing_behind)
