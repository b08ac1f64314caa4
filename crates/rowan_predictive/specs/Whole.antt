-- The whole run of the machine, and what is said of its actions.
use Rattle.std.specs.Prelude.{◌≡◌, ℕ, zero, suc, ◌-◌, ◌≤◌, List, [], ◌∷◌, ◌++◌, length, None}
use Rattle.rowan_predictive.specs.declared.rules.Item.{Item}
use Rattle.rowan_predictive.specs.declared.rules.Item.TheVariants.{Want, End, Leave}
use Rattle.rowan_predictive.specs.declared.rules.Action.{Action}
use Rattle.rowan_predictive.specs.declared.rules.Action.TheVariants.{Open, Mark, Around, Close}
use Rattle.rowan_predictive.specs.declared.rules.Action.TheVariants.{Done, Skip}
use Rattle.rowan_predictive.specs.declared.rules.Action.TheVariants as action
use Rattle.rowan_predictive.specs.declared.rules.Complaint.{Complaint}
use Rattle.rowan_predictive.specs.declared.rules.Entry.{Entry}
use Rattle.rowan_predictive.specs.Derived.{Derives}
use Rattle.rowan_predictive.specs.Machine.{State, noted, steps_of}

abbrev pub begun : ℕ → State
begun start = record { stack = Want start ∷ []; actions = []; errors = []; place = 0; fresh = 0 }

-- after so many steps
abbrev pub final : List Entry → ℕ → ℕ → List ℕ → State
final entries start count tokens = steps_of count entries tokens (begun start)

-- so many tokens are passed over
abbrev pub skipped : ℕ → List Action
skipped zero = []
skipped (suc n) = Skip ∷ skipped n

-- the tokens that are left are passed over
abbrev pub all_actions : List ℕ → State → List Action
all_actions tokens state = state.actions ++ skipped (length tokens - state.place)

-- a complaint, if so many tokens are left
abbrev pub last_errors : ℕ → State → List Complaint
last_errors zero state = state.errors
last_errors (suc left) state =
    noted state.fresh state.errors (record { rule = None; place = state.place })

abbrev pub all_errors : List ℕ → State → List Complaint
all_errors tokens state = last_errors (length tokens - state.place) state

-- From one state, steps lead to another one, where nothing is expected.
pub record Ends (entries : List Entry) (tokens : List ℕ) (old new : State) : Type 0 where
  pub count : ℕ
  pub steps : steps_of count entries tokens old ≡ new
  pub done : new.stack ≡ []

-- The machine, from rule `start` on, ends with these actions and complaints. Where nothing is
-- expected a step does nothing, so there is one such run.
pub record IsRun (entries : List Entry) (start : ℕ) (tokens : List ℕ)
    (actions : List Action) (errors : List Complaint) : Type 0 where
  pub last : State
  pub ends : Ends entries tokens (begun start) last
  pub did : actions ≡ all_actions tokens last
  pub told : errors ≡ all_errors tokens last

-- ---- what is said of actions

-- how many tokens they take
abbrev pub tokens_in : List Action → ℕ
tokens_in [] = 0
tokens_in (action.Token ∷ actions) = suc (tokens_in actions)
tokens_in (Skip ∷ actions) = suc (tokens_in actions)
tokens_in (Open kind ∷ actions) = tokens_in actions
tokens_in (Mark ∷ actions) = tokens_in actions
tokens_in (Around kind ∷ actions) = tokens_in actions
tokens_in (Done ∷ actions) = tokens_in actions
tokens_in (Close ∷ actions) = tokens_in actions

-- what is open: a node, or a chain
pub data Bracket : Type 0 where
  of_node : Bracket
  of_chain : Bracket

-- from these open nodes and chains, the innermost first, they lead to those, and each ends as what
-- it began
abbrev pub Leads : List Bracket → List Action → List Bracket → Type 0
Leads open_ones [] others = open_ones ≡ others
Leads open_ones (Open kind ∷ actions) others = Leads (of_node ∷ open_ones) actions others
Leads open_ones (Mark ∷ actions) others = Leads (of_chain ∷ open_ones) actions others
Leads open_ones (Around kind ∷ actions) others = Leads (of_node ∷ open_ones) actions others
Leads [] (Close ∷ actions) others = ⊥
Leads (of_node ∷ open_ones) (Close ∷ actions) others = Leads open_ones actions others
Leads (of_chain ∷ open_ones) (Close ∷ actions) others = ⊥
Leads [] (Done ∷ actions) others = ⊥
Leads (of_node ∷ open_ones) (Done ∷ actions) others = ⊥
Leads (of_chain ∷ open_ones) (Done ∷ actions) others = Leads open_ones actions others
Leads open_ones (action.Token ∷ actions) others = Leads open_ones actions others
Leads open_ones (Skip ∷ actions) others = Leads open_ones actions others

-- these tokens are derived from a rule by these actions
abbrev pub IsDerived : List Entry → ℕ → List ℕ → List Action → Type 0
IsDerived entries start tokens actions =
    (n : ℕ) × Derives entries n (Want start ∷ []) tokens actions

-- what is open
abbrev pub ends : List Item → List Bracket
ends [] = []
ends (End ∷ stack) = of_node ∷ ends stack
ends (Leave ∷ stack) = of_chain ∷ ends stack
ends (Want i ∷ stack) = ends stack

-- Each token so far was taken once, and the nodes that are open are those whose end is expected.
pub record IsTotal (tokens : List ℕ) (state : State) : Type 0 where
  pub taken : tokens_in state.actions ≡ state.place
  pub within : state.place ≤ length tokens
  pub depth : Leads [] state.actions (ends state.stack)
