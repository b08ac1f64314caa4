-- What holds of the whole run.
use Rattle.std.proofs.Common.{◌≡◌, ℕ, zero, suc, ◌+◌, ◌-◌, ◌≤◌, ◌<◌, Bool, true, false, List, [], ◌∷◌, ◌++◌, length}
use Rattle.std.proofs.Common.{Option, Some, None, slice_get, drop, refl, sym, ap, ◌∙◌, subst, arith, length-drop}
use Rattle.std.proofs.Common.{Result, Ok, Err, IfOk}
use Rattle.std.proofs.lemmas.List.{append-nil}
use Rattle.std.proofs.lemmas.Option.{slice_get_within}
use Rattle.rowan_predictive.specs.declared.rules.Move.{Move}
use Rattle.rowan_predictive.specs.declared.rules.Move.TheVariants.{Take, Enter, Begin, Surround, Both, Become, Pass}
use Rattle.rowan_predictive.specs.declared.rules.Item.{Item}
use Rattle.rowan_predictive.specs.declared.rules.Item.TheVariants.{Want, End, Leave}
use Rattle.rowan_predictive.specs.declared.rules.Action.{Action}
use Rattle.rowan_predictive.specs.declared.rules.Action.TheVariants.{Open, Mark, Around, Close, Done, Skip}
use Rattle.rowan_predictive.specs.declared.rules.Action.TheVariants as action
use Rattle.rowan_predictive.specs.declared.rules.Complaint.{Complaint}
use Rattle.rowan_predictive.specs.declared.rules.Entry.{Entry}
use Rattle.rowan_predictive.specs.Choice.{move_of}
use Rattle.rowan_predictive.specs.Derived.{Derives}
use Rattle.rowan_predictive.specs.Machine.{State, skips, with_stack, stuck_by, moved_by, stepped, step_of, steps_of}
use Rattle.rowan_predictive.specs.Predictive.{IsPredictive}
use Rattle.rowan_predictive.specs.Whole.{begun, skipped, last_errors, all_actions, all_errors, tokens_in, Bracket, of_node, of_chain, Leads, IsDerived, ends, IsTotal, Ends, IsRun}
use Rattle.rowan_predictive.proofs.Steps.{taken}
use Rattle.rowan_predictive.proofs.Sound.{IsSound, noted-some, sound-step}
use Rattle.rowan_predictive.proofs.Complete.{IsWithin, complete-step, complete-used, complete-end}

-- ---- total

tokens_in-append : (xs ys : List Action) → tokens_in (xs ++ ys) ≡ tokens_in xs + tokens_in ys
tokens_in-append [] ys = omega arith
tokens_in-append (action.Token ∷ xs) ys = let h = tokens_in-append xs ys in omega arith
tokens_in-append (Skip ∷ xs) ys = let h = tokens_in-append xs ys in omega arith
tokens_in-append (Open kind ∷ xs) ys = tokens_in-append xs ys
tokens_in-append (Mark ∷ xs) ys = tokens_in-append xs ys
tokens_in-append (Around kind ∷ xs) ys = tokens_in-append xs ys
tokens_in-append (Done ∷ xs) ys = tokens_in-append xs ys
tokens_in-append (Close ∷ xs) ys = tokens_in-append xs ys

Leads-append : (n m k : List Bracket) (xs ys : List Action) → Leads n xs m → Leads m ys k → Leads n (xs ++ ys) k
Leads-append n m k [] ys a b = subst (λ (x : List Bracket). Leads x ys k) (sym a) b
Leads-append n m k (action.Token ∷ xs) ys a b = Leads-append n m k xs ys a b
Leads-append n m k (Skip ∷ xs) ys a b = Leads-append n m k xs ys a b
Leads-append n m k (Open kind ∷ xs) ys a b = Leads-append (of_node ∷ n) m k xs ys a b
Leads-append n m k (Mark ∷ xs) ys a b = Leads-append (of_chain ∷ n) m k xs ys a b
Leads-append n m k (Around kind ∷ xs) ys a b = Leads-append (of_node ∷ n) m k xs ys a b
Leads-append [] m k (Close ∷ xs) ys a b = absurd a
Leads-append (of_node ∷ n) m k (Close ∷ xs) ys a b = Leads-append n m k xs ys a b
Leads-append (of_chain ∷ n) m k (Close ∷ xs) ys a b = absurd a
Leads-append [] m k (Done ∷ xs) ys a b = absurd a
Leads-append (of_node ∷ n) m k (Done ∷ xs) ys a b = absurd a
Leads-append (of_chain ∷ n) m k (Done ∷ xs) ys a b = Leads-append n m k xs ys a b

module _ (entries : List Entry) (tokens : List ℕ) where
  total-stuck : (b : Bool) (i : ℕ) (stack : List Item) (state : State) → (b ≡ true → state.place < length tokens)
      → tokens_in state.actions ≡ state.place → state.place ≤ length tokens → Leads [] state.actions (ends stack)
      → IsTotal tokens (stuck_by b i stack state)
  total-stuck true i stack state more t w d = record {
    taken = let h = tokens_in-append state.actions (Skip ∷ []) in omega arith;
    within = let h = more refl in omega arith;
    depth = Leads-append [] (ends stack) (ends stack) state.actions (Skip ∷ []) d refl;
  }
  total-stuck false i stack state more t w d = record { taken = t; within = w; depth = d }

  skips-within : (i : ℕ) (stack : List Item) (place : ℕ) (o : Option ℕ) → slice_get tokens place ≡ o → skips entries i stack o ≡ true → place < length tokens
  skips-within i stack place None e h = absurd (cc)
  skips-within i stack place (Some t) e h = slice_get_within tokens place t e

  total-moved : (next : Option ℕ) (o : Option Move) (i : ℕ) (stack : List Item) (state : State) → next ≡ slice_get tokens state.place
      → move_of entries i next ≡ o
      → tokens_in state.actions ≡ state.place → state.place ≤ length tokens → Leads [] state.actions (ends stack)
      → IsTotal tokens (moved_by entries next o i stack state)
  total-moved next None i stack state is e t w d =
      total-stuck (skips entries i stack next) i stack state (λ h. skips-within i stack state.place next (sym is) h) t w d
  total-moved next (Some (Take kind)) i stack state is e t w d = record {
    taken = let h = tokens_in-append state.actions (action.Token ∷ []) in omega arith;
    within = let h = slice_get_within tokens state.place kind (sym is ∙ taken entries i next kind e) in omega arith;
    depth = Leads-append [] (ends stack) (ends stack) state.actions (action.Token ∷ []) d refl;
  }
  total-moved next (Some (Enter kind a)) i stack state is e t w d = record {
    taken = let h = tokens_in-append state.actions (Open kind ∷ []) in omega arith;
    within = w;
    depth = Leads-append [] (ends stack) (of_node ∷ ends stack) state.actions (Open kind ∷ []) d refl;
  }
  total-moved next (Some (Begin a)) i stack state is e t w d = record {
    taken = let h = tokens_in-append state.actions (Mark ∷ []) in omega arith;
    within = w;
    depth = Leads-append [] (ends stack) (of_chain ∷ ends stack) state.actions (Mark ∷ []) d refl;
  }
  total-moved next (Some (Surround kind a)) i stack state is e t w d = record {
    taken = let h = tokens_in-append state.actions (Around kind ∷ []) in omega arith;
    within = w;
    depth = Leads-append [] (ends stack) (of_node ∷ ends stack) state.actions (Around kind ∷ []) d refl;
  }
  total-moved next (Some (Both a b)) i stack state is e t w d = record { taken = t; within = w; depth = d }
  total-moved next (Some (Become a)) i stack state is e t w d = record { taken = t; within = w; depth = d }
  total-moved next (Some Pass) i stack state is e t w d = record { taken = t; within = w; depth = d }

  total-stepped : (stack : List Item) (state : State) → state.stack ≡ stack
      → tokens_in state.actions ≡ state.place → state.place ≤ length tokens → Leads [] state.actions (ends stack)
      → IsTotal tokens (stepped entries tokens stack state)
  total-stepped [] state e t w d = record { taken = t; within = w; depth = subst (λ (x : List Item). Leads [] state.actions (ends x)) (sym e) d }
  total-stepped (End ∷ stack) state e t w d = record {
    taken = let h = tokens_in-append state.actions (Close ∷ []) in omega arith;
    within = w;
    depth = Leads-append [] (of_node ∷ ends stack) (ends stack) state.actions (Close ∷ []) d refl;
  }
  total-stepped (Leave ∷ stack) state e t w d = record {
    taken = let h = tokens_in-append state.actions (Done ∷ []) in omega arith;
    within = w;
    depth = Leads-append [] (of_chain ∷ ends stack) (ends stack) state.actions (Done ∷ []) d refl;
  }
  total-stepped (Want i ∷ stack) state e t w d =
      let next = slice_get tokens state.place in
      total-moved next (move_of entries i next) i stack (with_stack stack state) refl refl t w d

  pub total-step : (state : State) → IsTotal tokens state → IsTotal tokens (step_of entries tokens state)
  total-step state total = total-stepped state.stack state refl total.taken total.within total.depth

  pub total-steps : (n : ℕ) (state : State) → IsTotal tokens state → IsTotal tokens (steps_of n entries tokens state)
  total-steps zero state total = total
  total-steps (suc n) state total = total-steps n (step_of entries tokens state) (total-step state total)

tokens_in-skipped : (n : ℕ) → tokens_in (skipped n) ≡ n
tokens_in-skipped zero = refl
tokens_in-skipped (suc n) = ap suc (tokens_in-skipped n)

Leads-skipped : (n : ℕ) (d : List Bracket) → Leads d (skipped n) d
Leads-skipped zero d = refl
Leads-skipped (suc n) d = Leads-skipped n d

-- where nothing is expected, nothing changes
pub steps-done : (entries : List Entry) (tokens : List ℕ) (k : ℕ) (state : State) → state.stack ≡ [] → steps_of k entries tokens state ≡ state
steps-done entries tokens zero state e = refl
steps-done entries tokens (suc k) state e =
    ap (λ (x : State). steps_of k entries tokens x) (ap (λ (x : List Item). stepped entries tokens x state) e)
    ∙ steps-done entries tokens k state e

-- so many steps, and then so many more
pub steps-more : (entries : List Entry) (tokens : List ℕ) (j k : ℕ) (state : State)
    → steps_of (j + k) entries tokens state ≡ steps_of k entries tokens (steps_of j entries tokens state)
steps-more entries tokens zero k state = ap (λ (n : ℕ). steps_of n entries tokens state) (let e : 0 + k ≡ k = omega arith in e)
steps-more entries tokens (suc j) k state =
    ap (λ (n : ℕ). steps_of n entries tokens state) (let e : suc j + k ≡ suc (j + k) = omega arith in e)
    ∙ steps-more entries tokens j k (step_of entries tokens state)

-- ---- what holds at the start

pub begun-total : (start : ℕ) (tokens : List ℕ) → IsTotal tokens (begun start)
begun-total start tokens = record { taken = refl; within = omega arith; depth = refl }

-- ---- sound

append-empty : {A : Type 0} (xs ys : List A) → xs ++ ys ≡ [] → (xs ≡ []) × (ys ≡ [])
append-empty [] ys e = (refl, e)
append-empty (x ∷ xs) ys e = absurd (cc)

drop-empty : (tokens : List ℕ) (place : ℕ) → length tokens - place ≡ 0 → drop place tokens ≡ []
drop-empty [] zero e = refl
drop-empty [] (suc place) e = refl
drop-empty (t ∷ tokens) zero e = absurd (omega arith)
drop-empty (t ∷ tokens) (suc place) e = drop-empty tokens place (omega arith)

nothing-skipped : (actions : List Action) (n : ℕ) → n ≡ 0 → actions ++ skipped n ≡ actions
nothing-skipped actions zero e = append-nil actions
nothing-skipped actions (suc n) e = absurd (omega arith)

module _ (entries : List Entry) (start : ℕ) (tokens : List ℕ) where
  sound-steps : (n : ℕ) (state : State) → IsSound entries start tokens state → IsSound entries start tokens (steps_of n entries tokens state)
  sound-steps zero state sound = sound
  sound-steps (suc n) state sound = sound-steps n (step_of entries tokens state) (sound-step entries start tokens state sound)

  -- no complaint in the end: none before, and no token is left
  none-left : (left : ℕ) (state : State) → last_errors left state ≡ [] → (state.errors ≡ []) × (left ≡ 0)
  none-left zero state e = (e, refl)
  none-left (suc left) state e = absurd (noted-some entries start tokens state.fresh state.errors _ e)

  sound-end : (state : State) → state.stack ≡ [] → IsSound entries start tokens state → all_errors tokens state ≡ []
      → IsDerived entries start tokens (all_actions tokens state)
  sound-end state done sound none =
      let left = length tokens - state.place in
      let e = none-left left state none in
      let w = sound e.0 0 [] (done, drop-empty tokens state.place e.1, refl) in
      let actions : all_actions tokens state ≡ state.actions ++ [] =
      nothing-skipped state.actions left e.1 ∙ sym (append-nil state.actions) in
      (w.0, subst (λ (x : List Action). Derives entries w.0 (Want start ∷ []) tokens x) (sym actions) w.1)

  -- with no complaint, the actions are a derivation
  pub run-sound : (actions : List Action) (errors : List Complaint) → IsRun entries start tokens actions errors → errors ≡ []
      → IsDerived entries start tokens actions
  run-sound actions errors run none =
      let sound : IsSound entries start tokens run.last =
      subst (λ (x : State). IsSound entries start tokens x) run.ends.steps (sound-steps run.ends.count (begun start) (λ e n fs d. (n, d))) in
      subst (λ (x : List Action). IsDerived entries start tokens x) (sym run.did)
      (sound-end run.last run.ends.done sound (sym run.told ∙ none))

  last-total : (actions : List Action) (errors : List Complaint) → IsRun entries start tokens actions errors → IsTotal tokens
      (record { stack = []; actions = actions; errors = errors; place = length tokens; fresh = 0 })
  last-total actions errors run =
      let at : IsTotal tokens run.last =
      subst (λ (x : State). IsTotal tokens x) run.ends.steps (total-steps entries tokens run.ends.count (begun start) (begun-total start tokens)) in
      let left = length tokens - run.last.place in
      let open_ones : ends run.last.stack ≡ [] = ap ends run.ends.done in
      record {
        taken = ap tokens_in run.did ∙ (let h = tokens_in-append run.last.actions (skipped left) in
            let k = tokens_in-skipped left in let t = at.taken in let w = at.within in omega (arith, h, k, t, w));
        within = omega arith;
        depth = subst (λ (x : List Action). Leads [] x []) (sym run.did)
            (Leads-append [] [] [] run.last.actions (skipped left)
            (subst (λ (x : List Bracket). Leads [] run.last.actions x) open_ones at.depth) (Leads-skipped left []));
      }

  pub run-tokens : (actions : List Action) (errors : List Complaint) → IsRun entries start tokens actions errors → tokens_in actions ≡ length tokens
  run-tokens actions errors run = (last-total actions errors run).taken

  pub run-nodes : (actions : List Action) (errors : List Complaint) → IsRun entries start tokens actions errors → Leads [] actions []
  run-nodes actions errors run = (last-total actions errors run).depth

-- ---- complete

record IsFinished (tokens : List ℕ) (all : List Action) (state : State) : Type 0 where
  stack : state.stack ≡ []
  rest : drop state.place tokens ≡ []
  actions : state.actions ≡ all
  errors : state.errors ≡ []

module _ (entries : List Entry) (fits : IsPredictive entries) (tokens : List ℕ) (n : ℕ) (all : List Action) where
  rests : (k : ℕ) (state : State) → state.stack ≡ [] → IsFinished tokens all state → IsFinished tokens all (steps_of k entries tokens state)
  rests k state e done = subst (λ (x : State). IsFinished tokens all x) (sym (steps-done entries tokens k state e)) done

  finished : (count : ℕ) (state : State) → state.stack ≡ [] → IsWithin entries tokens n all count state → IsFinished tokens all state
  finished count state e w =
      let h = complete-end entries fits tokens n all count state e w in
      record { stack = e; rest = h.0; actions = h.1; errors = w.no_errors }

  more : (k count : ℕ) (state : State) (stack : List Item) → state.stack ≡ stack → n ≤ count + suc k
      → IsWithin entries tokens n all count state
      → ((count : ℕ) (state : State) → n ≤ count + k → IsWithin entries tokens n all count state → IsFinished tokens all (steps_of k entries tokens state))
      → IsFinished tokens all (steps_of (suc k) entries tokens state)
  more k count state [] e le w ih = rests (suc k) state e (finished count state e w)
  more k count state (item ∷ stack) e le w ih =
      ih (count + 1) (step_of entries tokens state) (omega arith)
      (complete-step entries fits tokens n all count state (λ q. absurd (cc)) w)

  complete-steps : (k count : ℕ) (state : State) → n ≤ count + k → IsWithin entries tokens n all count state
      → IsFinished tokens all (steps_of k entries tokens state)
  complete-steps zero count state le w =
      finished count state (complete-used entries fits tokens n all count state (omega arith) w) w
  complete-steps (suc k) count state le w =
      more k count state state.stack refl le w (λ c s l x. complete-steps k c s l x)

  nothing : (m t : ℕ) (ts : List ℕ) (es : List Action) → Derives entries m [] (t ∷ ts) es → ⊥
  nothing zero t ts es d = let e = d.1 in cc
  nothing (suc m) t ts es d = d

  -- a run that ended did as many steps as the derivation has, and then none that changes anything
  run-finished : (start : ℕ) (last : State) → Ends entries tokens (begun start) last
      → Derives entries n (Want start ∷ []) tokens all → IsFinished tokens all last
  run-finished start last run d =
      let done : IsFinished tokens all (steps_of (run.count + n) entries tokens (begun start)) =
      complete-steps (run.count + n) 0 (begun start) (omega arith) (record {
        m = n;
        fs = all;
        steps = omega arith;
        derives = d;
        joined = refl;
        no_errors = refl;
        followed = (λ m t ts es h. absurd (nothing m t ts es h), tt);
      }) in
      let same : steps_of (run.count + n) entries tokens (begun start) ≡ last =
      steps-more entries tokens run.count n (begun start)
      ∙ ap (λ (x : State). steps_of n entries tokens x) run.steps
      ∙ steps-done entries tokens n last run.done in
      subst (λ (x : State). IsFinished tokens all x) same done

  -- the actions of a derivation, and no complaint
  pub run-complete : (start : ℕ) (actions : List Action) (errors : List Complaint) → IsRun entries start tokens actions errors
      → Derives entries n (Want start ∷ []) tokens all → (errors ≡ []) × (actions ≡ all)
  run-complete start actions errors run d =
      let done = run-finished start run.last run.ends d in
      let left : length tokens - run.last.place ≡ 0 = sym (length-drop run.last.place tokens) ∙ ap length done.rest in (
        run.told ∙ ap (λ (x : ℕ). last_errors x run.last) left ∙ done.errors,
        run.did ∙ nothing-skipped run.last.actions (length tokens - run.last.place) left ∙ done.actions,
      )

-- ---- a run, from its parts

module _ (entries : List Entry) (start : ℕ) (tokens : List ℕ) (first : State) (is : first ≡ begun start) where
  pub first-total : IsTotal tokens first
  first-total = subst (λ (x : State). IsTotal tokens x) (sym is) (begun-total start tokens)

  module _ (last : State) (ends-at : Ends entries tokens first last) where
    pub last-within : last.place ≤ length tokens
    last-within =
        (subst (λ (x : State). IsTotal tokens x) ends-at.steps
        (total-steps entries tokens ends-at.count first first-total)).within

    pub is-run : (actions : List Action) (errors : List Complaint) → actions ≡ all_actions tokens last
        → errors ≡ all_errors tokens last → IsRun entries start tokens actions errors
    is-run actions errors did told = record {
      last = last;
      ends = subst (λ (x : State). Ends entries tokens x last) is ends-at;
      did = did;
      told = told;
    }

-- ---- the loop

-- a state that steps lead to
pub record IsOnWay (entries : List Entry) (tokens : List ℕ) (first state : State) : Type 0 where
  pub count : ℕ
  pub steps : steps_of count entries tokens first ≡ state

-- one more step
pub turn : (entries : List Entry) (tokens : List ℕ) (count : ℕ) (first old new : State) → new ≡ step_of entries tokens old
    → steps_of count entries tokens first ≡ old → steps_of (count + 1) entries tokens first ≡ new
turn entries tokens count first old new is leads =
    steps-more entries tokens count 1 first
    ∙ ap (λ (x : State). step_of entries tokens x) leads
    ∙ sym is

pub no-items : {A : Type 0} (xs : List A) → length xs ≡ 0 → xs ≡ []
no-items [] e = refl
no-items (x ∷ xs) e = absurd (omega arith)

pub if-ok : {A E : Type 0} (P Q : A → Type 0) (r : Result A E) → IfOk r P → ((x : A) → P x → Q x) → IfOk r Q
if-ok P Q (Ok x) h f = f x h
if-ok P Q (Err e) h f = h
