-- The actions so far, and those by which the stack derives the tokens that are left, derive all tokens.
use Rattle.std.proofs.Common.{◌≡◌, ℕ, suc, ◌+◌, Bool, true, false, cond, List, [], ◌∷◌, ◌++◌}
use Rattle.std.proofs.Common.{Option, Some, None, slice_get, drop, refl, sym, ap, ◌∙◌, subst, append_assoc}
use Rattle.rowan_predictive.specs.declared.rules.Move.{Move}
use Rattle.rowan_predictive.specs.declared.rules.Move.TheVariants.{Take, Enter, Begin, Surround, Both, Become, Pass}
use Rattle.rowan_predictive.specs.declared.rules.Item.{Item}
use Rattle.rowan_predictive.specs.declared.rules.Item.TheVariants.{Want, End, Leave}
use Rattle.rowan_predictive.specs.declared.rules.Action.{Action}
use Rattle.rowan_predictive.specs.declared.rules.Action.TheVariants.{Open, Mark, Around, Close, Done, Skip}
use Rattle.rowan_predictive.specs.declared.rules.Action.TheVariants as action
use Rattle.rowan_predictive.specs.declared.rules.Complaint.{Complaint}
use Rattle.rowan_predictive.specs.declared.rules.Entry.{Entry}
use Rattle.rowan_predictive.specs.Choice.{move_of}
use Rattle.rowan_predictive.specs.Derived.{AllowsAt, Derives}
use Rattle.rowan_predictive.specs.Machine.{State, skips, is_told, noted, with_stack, stuck_by, moved_by, stepped, step_of}
use Rattle.rowan_predictive.proofs.Steps.{allowed, taken, drop-next}

-- what these actions begin is a derivation of the whole, if the stack derives the rest
abbrev pub Leads : List Entry → ℕ → List ℕ → List Action → List Item → List ℕ → Type 0
Leads entries start tokens actions stack rest =
    (n : ℕ) (fs : List Action) → Derives entries n stack rest fs
    → (m : ℕ) × Derives entries m (Want start ∷ []) tokens (actions ++ fs)

abbrev pub IsSound : List Entry → ℕ → List ℕ → State → Type 0
IsSound entries start tokens state =
    state.errors ≡ [] → Leads entries start tokens state.actions state.stack (drop state.place tokens)

module _ (entries : List Entry) (start : ℕ) (tokens : List ℕ) where
  one-more : (actions : List Action) (e : Action) (fs : List Action) (n : ℕ)
      → Derives entries n (Want start ∷ []) tokens (actions ++ (e ∷ fs))
      → Derives entries n (Want start ∷ []) tokens ((actions ++ (e ∷ [])) ++ fs)
  one-more actions e fs n d =
      subst (λ (x : List Action). Derives entries n (Want start ∷ []) tokens x) (sym (append_assoc actions (e ∷ []) fs)) d

  closes : (actions : List Action) (stack : List Item) (rest : List ℕ)
      → Leads entries start tokens actions (End ∷ stack) rest → Leads entries start tokens (actions ++ (Close ∷ [])) stack rest
  closes actions stack rest leads n fs d =
      let w = leads (suc n) (Close ∷ fs) (fs, refl, d) in (w.0, one-more actions Close fs w.0 w.1)

  leaves : (actions : List Action) (stack : List Item) (rest : List ℕ)
      → Leads entries start tokens actions (Leave ∷ stack) rest → Leads entries start tokens (actions ++ (Done ∷ [])) stack rest
  leaves actions stack rest leads n fs d =
      let w = leads (suc n) (Done ∷ fs) (fs, refl, d) in (w.0, one-more actions Done fs w.0 w.1)

  noted-by : (b : Bool) (fresh : ℕ) (es : List Complaint) (e : Complaint) → is_told fresh es ≡ b
      → cond b es (es ++ (e ∷ [])) ≡ [] → ⊥
  noted-by true fresh [] e is h = cc
  noted-by true fresh (x ∷ es) e is h = cc
  noted-by false fresh [] e is h = cc
  noted-by false fresh (x ∷ es) e is h = cc

  pub noted-some : (fresh : ℕ) (es : List Complaint) (e : Complaint) → noted fresh es e ≡ [] → ⊥
  noted-some fresh es e h = noted-by (is_told fresh es) fresh es e refl h

  stuck : (b : Bool) (i : ℕ) (stack : List Item) (state : State) → IsSound entries start tokens (stuck_by b i stack state)
  stuck true i stack state h = absurd (noted-some state.fresh state.errors _ h)
  stuck false i stack state h = absurd (noted-some state.fresh state.errors _ h)

  moves : (next : Option ℕ) (m : Move) (i : ℕ) (stack : List Item) (state : State)
      → AllowsAt i (slice_get entries i) m
      → ((kind : ℕ) → m ≡ Take kind → drop state.place tokens ≡ kind ∷ drop (state.place + 1) tokens)
      → (state.errors ≡ [] → Leads entries start tokens state.actions (Want i ∷ stack) (drop state.place tokens))
      → IsSound entries start tokens (moved_by entries next (Some m) i stack state)
  moves next (Take kind) i stack state may is leads h n fs d =
      let w = leads h (suc n) (action.Token ∷ fs) (Take kind, may, (drop (state.place + 1) tokens, fs, is kind refl, refl, d)) in
      (w.0, one-more state.actions action.Token fs w.0 w.1)
  moves next (Enter kind a) i stack state may is leads h n fs d =
      let w = leads h (suc n) (Open kind ∷ fs) (Enter kind a, may, (fs, refl, d)) in
      (w.0, one-more state.actions (Open kind) fs w.0 w.1)
  moves next (Begin a) i stack state may is leads h n fs d =
      let w = leads h (suc n) (Mark ∷ fs) (Begin a, may, (fs, refl, d)) in
      (w.0, one-more state.actions Mark fs w.0 w.1)
  moves next (Surround kind a) i stack state may is leads h n fs d =
      let w = leads h (suc n) (Around kind ∷ fs) (Surround kind a, may, (fs, refl, d)) in
      (w.0, one-more state.actions (Around kind) fs w.0 w.1)
  moves next (Both a b) i stack state may is leads h n fs d = leads h (suc n) fs (Both a b, may, d)
  moves next (Become a) i stack state may is leads h n fs d = leads h (suc n) fs (Become a, may, d)
  moves next Pass i stack state may is leads h n fs d = leads h (suc n) fs (Pass, may, d)

  moved : (o : Option Move) (i : ℕ) (stack : List Item) (state : State)
      → move_of entries i (slice_get tokens state.place) ≡ o
      → (state.errors ≡ [] → Leads entries start tokens state.actions (Want i ∷ stack) (drop state.place tokens))
      → IsSound entries start tokens (moved_by entries (slice_get tokens state.place) o i stack state)
  moved None i stack state e leads = stuck (skips entries i stack (slice_get tokens state.place)) i stack state
  moved (Some m) i stack state e leads =
      moves (slice_get tokens state.place) m i stack state (allowed entries i (slice_get tokens state.place) m e)
      (λ kind q. drop-next tokens state.place kind (taken entries i (slice_get tokens state.place) kind (e ∙ ap Some q))) leads

  steps : (stack : List Item) (state : State)
      → (state.errors ≡ [] → Leads entries start tokens state.actions stack (drop state.place tokens))
      → state.stack ≡ stack
      → IsSound entries start tokens (stepped entries tokens stack state)
  steps [] state leads e h =
      subst (λ (x : List Item). Leads entries start tokens state.actions x (drop state.place tokens)) (sym e) (leads h)
  steps (End ∷ stack) state leads e h = closes state.actions stack (drop state.place tokens) (leads h)
  steps (Leave ∷ stack) state leads e h = leaves state.actions stack (drop state.place tokens) (leads h)
  steps (Want i ∷ stack) state leads e h = moved (move_of entries i (slice_get tokens state.place)) i stack (with_stack stack state) refl leads h

  -- a step keeps it
  pub sound-step : (state : State) → IsSound entries start tokens state → IsSound entries start tokens (step_of entries tokens state)
  sound-step state leads = steps state.stack state leads refl
