-- What the machine does in a step.
use Rattle.std.specs.Prelude.{ℕ, zero, suc, ◌+◌, ◌-◌, ◌||◌, ltb, Bool, true, false, if◌then◌else◌}
use Rattle.std.specs.Prelude.{not}
use Rattle.std.specs.Prelude.{List, [], ◌∷◌, ◌++◌, length, Option, Some, None, slice_get}
use Rattle.rowan_predictive.specs.declared.rules.Move.{Move}
use Rattle.rowan_predictive.specs.declared.rules.Move.TheVariants.{Take, Enter, Begin, Surround}
use Rattle.rowan_predictive.specs.declared.rules.Move.TheVariants.{Both, Become, Pass}
use Rattle.rowan_predictive.specs.declared.rules.Item.{Item}
use Rattle.rowan_predictive.specs.declared.rules.Item.TheVariants.{Want, End, Leave}
use Rattle.rowan_predictive.specs.declared.rules.Action.{Action}
use Rattle.rowan_predictive.specs.declared.rules.Action.TheVariants.{Open, Mark, Around, Close}
use Rattle.rowan_predictive.specs.declared.rules.Action.TheVariants.{Done, Skip}
use Rattle.rowan_predictive.specs.declared.rules.Action.TheVariants as action
use Rattle.rowan_predictive.specs.declared.rules.Complaint.{Complaint}
use Rattle.rowan_predictive.specs.declared.rules.Entry.{Entry}
use Rattle.rowan_predictive.specs.Choice.{move_of, is_begun, awaits}

-- What is expected, the next first; the actions and complaints so far; the number of the next
-- token, and that of the one behind the last that was taken.
pub record State : Type 0 where
  pub stack : List Item
  pub actions : List Action
  pub errors : List Complaint
  pub place : ℕ
  pub fresh : ℕ

-- some item may go on with a token of this kind: the token is kept for it
abbrev pub is_anchor : List Entry → List Item → ℕ → Bool
is_anchor entries [] kind = false
is_anchor entries (item ∷ stack) kind = awaits entries kind item || is_anchor entries stack kind

-- where rule i is expected before this stack, and the next token does not fit: the token is passed
-- over where no item of the stack may go on with it
abbrev pub skips : List Entry → ℕ → List Item → Option ℕ → Bool
skips entries i stack None = false
skips entries i stack (Some kind) =
    if is_begun entries i (Some kind) then true else not (is_anchor entries stack kind)

abbrev pub is_since : ℕ → Option Complaint → Bool
is_since fresh None = false
is_since fresh (Some e) = not (ltb e.place fresh)

-- something was complained of since a token was taken
abbrev pub is_told : ℕ → List Complaint → Bool
is_told fresh errors = is_since fresh (slice_get errors (length errors - 1))

-- a complaint, and none where one was made since a token was taken
abbrev pub noted : ℕ → List Complaint → Complaint → List Complaint
noted fresh errors complaint =
    if is_told fresh errors then errors else (errors ++ (complaint ∷ []))

abbrev pub complained : Option ℕ → State → State
complained rule state = record {
  stack = state.stack;
  actions = state.actions;
  errors = noted state.fresh state.errors (record { rule = rule; place = state.place });
  place = state.place;
  fresh = state.fresh;
}

abbrev pub with_stack : List Item → State → State
with_stack stack state = record {
  stack = stack;
  actions = state.actions;
  errors = state.errors;
  place = state.place;
  fresh = state.fresh;
}

abbrev pub with_action : Action → List Item → State → State
with_action a stack state = record {
  stack = stack;
  actions = state.actions ++ (a ∷ []);
  errors = state.errors;
  place = state.place;
  fresh = state.fresh;
}

-- the next token does not fit rule i: it is passed over, or the rule is taken as absent
abbrev pub stuck_by : Bool → ℕ → List Item → State → State
stuck_by true i stack state = record {
  stack = Want i ∷ stack;
  actions = state.actions ++ (Skip ∷ []);
  errors = noted state.fresh state.errors (record { rule = Some i; place = state.place });
  place = state.place + 1;
  fresh = state.fresh;
}
stuck_by false i stack state = record {
  stack = stack;
  actions = state.actions;
  errors = noted state.fresh state.errors (record { rule = Some i; place = state.place });
  place = state.place;
  fresh = state.fresh;
}

abbrev pub moved_by : List Entry → Option ℕ → Option Move → ℕ → List Item → State → State
moved_by entries next None i stack state = stuck_by (skips entries i stack next) i stack state
moved_by entries next (Some (Take kind)) i stack state = record {
  stack = stack;
  actions = state.actions ++ (action.Token ∷ []);
  errors = state.errors;
  place = state.place + 1;
  fresh = state.place + 1;
}
moved_by entries next (Some (Enter kind a)) i stack state =
    with_action (Open kind) (Want a ∷ End ∷ stack) state
moved_by entries next (Some (Begin a)) i stack state =
    with_action Mark (Want a ∷ Leave ∷ stack) state
moved_by entries next (Some (Surround kind a)) i stack state =
    with_action (Around kind) (Want a ∷ End ∷ stack) state
moved_by entries next (Some (Both a b)) i stack state = with_stack (Want a ∷ Want b ∷ stack) state
moved_by entries next (Some (Become a)) i stack state = with_stack (Want a ∷ stack) state
moved_by entries next (Some Pass) i stack state = with_stack stack state

-- a step, where this stack is expected
abbrev pub stepped : List Entry → List ℕ → List Item → State → State
stepped entries tokens [] state = state
stepped entries tokens (End ∷ stack) state = with_action Close stack state
stepped entries tokens (Leave ∷ stack) state = with_action Done stack state
stepped entries tokens (Want i ∷ stack) state =
    let next = slice_get tokens state.place in
    moved_by entries next (move_of entries i next) i stack (with_stack stack state)

abbrev pub step_of : List Entry → List ℕ → State → State
step_of entries tokens state = stepped entries tokens state.stack state

-- so many steps
abbrev pub steps_of : ℕ → List Entry → List ℕ → State → State
steps_of zero entries tokens state = state
steps_of (suc n) entries tokens state = steps_of n entries tokens (step_of entries tokens state)
