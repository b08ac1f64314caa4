-- What is left of a walk through what is at and below a node, by the event that comes next.
use Rattle.std.specs.Prelude.{◌≡◌, ℕ, suc, true, List, [], ◌∷◌, ◌++◌, length, drop, Option, Some}
use Rattle.std.specs.Prelude.{None}
use Rattle.std.proofs.Props.{props}
use Rattle.rowan_green.specs.declared.utility_types.NodeOrToken.TheVariants.{Node}
use Rattle.rowan_green.specs.declared.utility_types.WalkEvent.{WalkEvent}
use Rattle.rowan_green.specs.declared.utility_types.WalkEvent.TheVariants.{Enter, Leave}
use Rattle.rowan_green.specs.WalkEvent.{event_value}
use Rattle.rowan_green.specs.Term.{NodeTerm, Term}
use Rattle.rowan_terms.specs.Path.{Path, subterm}
use Rattle.rowan_table.specs.declared.table.Table.{Table}
use Rattle.rowan_table.specs.Moves.{children_of}
use Rattle.rowan_table.specs.TablePass.{StandsInside}
use Rattle.rowan_table.specs.TableView.{root_of, path_at, stands_for_node}
use Rattle.rowan_table.specs.Preorder.{event_map, term_events, path_events}

-- the events of the children of the node at a path, from index i on
abbrev pub events_from : Path → ℕ → List Term → List (WalkEvent Path)
events_from p i [] = []
events_from p i (t ∷ ts) = term_events (p ++ i ∷ []) (Some t) ++ events_from p (suc i) ts

abbrev pub child_events : NodeTerm → Path → ℕ → List (WalkEvent Path)
child_events root p i = events_from p i (drop i (children_of (subterm (Node root) p)))

-- the events behind an element in a walk from `top`, which this way leads to from there
abbrev pub behind : NodeTerm → Path → Path → List (WalkEvent Path)
behind root top [] = []
behind root top (i ∷ way) =
    behind root (top ++ i ∷ []) way ++ (child_events root top (suc i) ++ Leave top ∷ [])

-- the events behind the element at a path
abbrev pub behind_path : NodeTerm → Path → Path → List (WalkEvent Path)
behind_path root top p = behind root top (drop (length top) p)

-- the events from this one on
abbrev pub events_on : NodeTerm → Path → WalkEvent Path → List (WalkEvent Path)
events_on root top (Enter p) = path_events root p ++ behind_path root top p
events_on root top (Leave p) = Leave p ∷ behind_path root top p

-- the event of a number as that of its path
abbrev pub event_of : Table → WalkEvent ℕ → WalkEvent Path
event_of t e = event_map (path_at t) e

-- the events from this one on, which is given by the number of its element
abbrev pub remaining_events : Table → ℕ → Option (WalkEvent ℕ) → List (WalkEvent Path)
remaining_events t start None = []
remaining_events t start (Some e) = events_on (root_of t) (path_at t start) (event_of t e)

-- the next event, where there is one, is of the start or of what is below it
abbrev pub NextStays : Table → ℕ → Option (WalkEvent ℕ) → Type 0
NextStays t start None = Unit {0}
NextStays t start (Some e) = StandsInside t start (event_value e)

StandsInside-prop : (t : Table) (start n : ℕ) → IsProp (StandsInside t start n)
StandsInside-prop t start n = hlevel props

pub NextStays-prop : (t : Table) (start : ℕ) (next : Option (WalkEvent ℕ))
    → IsProp (NextStays t start next)
NextStays-prop t start None = hlevel props
NextStays-prop t start (Some e) = StandsInside-prop t start (event_value e)

-- the next event is no Leave of a token
abbrev pub LeavesNoToken : Table → Option (WalkEvent ℕ) → Type 0
LeavesNoToken t None = Unit {0}
LeavesNoToken t (Some (Enter n)) = Unit {0}
LeavesNoToken t (Some (Leave n)) = stands_for_node t n ≡ true

pub LeavesNoToken-prop : (t : Table) (next : Option (WalkEvent ℕ)) → IsProp (LeavesNoToken t next)
LeavesNoToken-prop t None = hlevel props
LeavesNoToken-prop t (Some (Enter n)) = hlevel props
LeavesNoToken-prop t (Some (Leave n)) = hlevel props
