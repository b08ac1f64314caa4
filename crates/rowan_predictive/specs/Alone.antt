-- A machine over the tokens of a part alone, and over those of a whole in which the part stands.
use Rattle.std.specs.Prelude.{◌≡◌, ℕ, ◌<◌, ◌+◌, List, [], ◌∷◌, ◌++◌, map, None, slice_get}
use Rattle.rowan_predictive.specs.declared.rules.Action.{Action}
use Rattle.rowan_predictive.specs.declared.rules.Complaint.{Complaint}
use Rattle.rowan_predictive.specs.declared.rules.Entry.{Entry}
use Rattle.rowan_predictive.specs.declared.rules.Item.{Item}
use Rattle.rowan_predictive.specs.declared.rules.Item.TheVariants.{Want}
use Rattle.rowan_predictive.specs.Choice.{move_of}
use Rattle.rowan_predictive.specs.Machine.{State, skips, steps_of}

-- a complaint of a token that stands d further on
abbrev pub moved_on : ℕ → Complaint → Complaint
moved_on d complaint = record { rule = complaint.rule; place = complaint.place + d }

-- A state over the part, as one over the whole: d tokens, these actions and these complaints come
-- before the part, and this stack is expected behind it.
abbrev pub in_whole : ℕ → List Action → List Complaint → List Item → State → State
in_whole d actions errors stack state = record {
  stack = state.stack ++ stack;
  actions = actions ++ state.actions;
  errors = errors ++ map (moved_on d) state.errors;
  place = state.place + d;
  fresh = state.fresh + d;
}

-- In this state over the part something is expected, and the next token is the same in the whole.
-- Where it does not fit, it is passed over in both or in neither.
pub record IsAlike (entries : List Entry) (part whole : List ℕ) (d : ℕ) (behind : List Item)
    (state : State) : Type 0 where
  pub busy : state.stack ≡ [] → ⊥
  pub next : slice_get whole (state.place + d) ≡ slice_get part state.place
  pub passes : (i : ℕ) (stack : List Item) → state.stack ≡ Want i ∷ stack
      → move_of entries i (slice_get part state.place) ≡ None
      → skips entries i (stack ++ behind) (slice_get part state.place)
      ≡ skips entries i stack (slice_get part state.place)

-- It is so in each of the first k states from this one on.
abbrev pub AreAlike : List Entry → List ℕ → List ℕ → ℕ → List Item → ℕ → State → Type 0
AreAlike entries part whole d behind k state = (j : ℕ) → j < k
    → IsAlike entries part whole d behind (steps_of j entries part state)
