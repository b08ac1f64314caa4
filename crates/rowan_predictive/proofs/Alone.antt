-- What a machine does over a part alone, it does over the whole.
use Rattle.std.proofs.Common.{◌≡◌, ℕ, zero, suc, ◌+◌, ◌-◌, ltb, not, Bool, true, false, cond, List, [], ◌∷◌, ◌++◌, map, length, Option, Some, None, slice_get}
use Rattle.std.proofs.Common.{refl, sym, ap, ◌∙◌, append_assoc, append-nil, arith}
use Rattle.std.specs.Option.{option_map}
use Rattle.std.proofs.lemmas.Bool.Decides.{nat_tests}
use Rattle.std.proofs.lemmas.List.{map-append, length-append, length-map}
use Rattle.std.proofs.lemmas.Option.{slice_get-map}
use Rattle.rowan_predictive.specs.declared.rules.Move.{Move}
use Rattle.rowan_predictive.specs.declared.rules.Move.TheVariants.{Take, Enter, Begin, Surround, Both, Become, Pass}
use Rattle.rowan_predictive.specs.declared.rules.Item.{Item}
use Rattle.rowan_predictive.specs.declared.rules.Item.TheVariants.{Want, End, Leave}
use Rattle.rowan_predictive.specs.declared.rules.Action.{Action}
use Rattle.rowan_predictive.specs.declared.rules.Action.TheVariants.{Open, Mark, Around, Close, Done, Skip}
use Rattle.rowan_predictive.specs.declared.rules.Action.TheVariants as action
use Rattle.rowan_predictive.specs.declared.rules.Complaint.{Complaint}
use Rattle.rowan_predictive.specs.declared.rules.Entry.{Entry}
use Rattle.rowan_predictive.specs.Alone.{moved_on, in_whole, IsAlike, AreAlike}
use Rattle.rowan_predictive.specs.Choice.{move_of}
use Rattle.rowan_predictive.specs.Machine.{State, skips, is_since, is_told, noted, with_stack, stuck_by, moved_by, stepped, step_of, steps_of}

-- ---- complaints

last-behind : {A : Type 0} (xs : List A) (y : A) (ys : List A) (n : ℕ) → n ≡ length xs + length ys
    → slice_get (xs ++ (y ∷ ys)) n ≡ slice_get (y ∷ ys) (length ys)
last-behind [] y ys n e = let h : n ≡ length ys = omega arith in ap (slice_get (y ∷ ys)) h
last-behind (x ∷ xs) y ys zero e = absurd (omega arith)
last-behind (x ∷ xs) y ys (suc n) e = last-behind xs y ys n (omega arith)

later : (d fresh : ℕ) (o : Option Complaint) → is_since d o ≡ false → is_since (fresh + d) o ≡ false
later d fresh None e = refl
later d fresh (Some c) e = grind (arith, nat_tests)

since-same : (d fresh : ℕ) (o : Option Complaint) → is_since (fresh + d) (option_map (moved_on d) o) ≡ is_since fresh o
since-same d fresh None = refl
since-same d fresh (Some c) = let e : ltb (c.place + d) (fresh + d) ≡ ltb c.place fresh = grind (arith, nat_tests) in ap not e

told-same : (d fresh : ℕ) (earlier errors : List Complaint) → is_told d earlier ≡ false
    → is_told (fresh + d) (earlier ++ map (moved_on d) errors) ≡ is_told fresh errors
told-same d fresh earlier [] quiet =
    ap (is_told (fresh + d)) (append-nil earlier) ∙ later d fresh (slice_get earlier (length earlier - 1)) quiet
told-same d fresh earlier (c ∷ cs) quiet =
    let ms = map (moved_on d) cs in
    let n : length (earlier ++ (moved_on d c ∷ ms)) - 1 ≡ length earlier + length ms =
    (let h = length-append earlier (moved_on d c ∷ ms) in omega (arith, h)) in
    let same : slice_get (earlier ++ (moved_on d c ∷ ms)) (length (earlier ++ (moved_on d c ∷ ms)) - 1)
    ≡ option_map (moved_on d) (slice_get (c ∷ cs) (length cs)) =
    last-behind earlier (moved_on d c) ms (length (earlier ++ (moved_on d c ∷ ms)) - 1) n
    ∙ ap (slice_get (moved_on d c ∷ ms)) (length-map cs (moved_on d))
    ∙ slice_get-map (moved_on d) (c ∷ cs) (length cs) in
    ap (is_since (fresh + d)) same ∙ since-same d fresh (slice_get (c ∷ cs) (length cs))
    ∙ ap (λ (n : ℕ). is_since fresh (slice_get (c ∷ cs) n)) (let e : length cs ≡ length (c ∷ cs) - 1 = omega arith in e)

noted-by : (b : Bool) (d : ℕ) (earlier errors : List Complaint) (c : Complaint)
    → cond b (earlier ++ map (moved_on d) errors) ((earlier ++ map (moved_on d) errors) ++ (moved_on d c ∷ []))
    ≡ earlier ++ map (moved_on d) (cond b errors (errors ++ (c ∷ [])))
noted-by true d earlier errors c = refl
noted-by false d earlier errors c =
    append_assoc earlier (map (moved_on d) errors) (moved_on d c ∷ [])
    ∙ ap (λ (x : List Complaint). earlier ++ x) (sym (map-append (moved_on d) errors (c ∷ [])))

noted-same : (d fresh : ℕ) (earlier errors : List Complaint) (c : Complaint) → is_told d earlier ≡ false
    → noted (fresh + d) (earlier ++ map (moved_on d) errors) (moved_on d c)
    ≡ earlier ++ map (moved_on d) (noted fresh errors c)
noted-same d fresh earlier errors c quiet =
    ap (λ (b : Bool). cond b (earlier ++ map (moved_on d) errors) ((earlier ++ map (moved_on d) errors) ++ (moved_on d c ∷ [])))
    (told-same d fresh earlier errors quiet)
    ∙ noted-by (is_told fresh errors) d earlier errors c

-- ---- steps

abbrev state-of : List Item → List Action → List Complaint → ℕ → ℕ → State
state-of stack actions errors place fresh =
    record { stack = stack; actions = actions; errors = errors; place = place; fresh = fresh }

same-state : (s t : State) → s.stack ≡ t.stack → s.actions ≡ t.actions → s.errors ≡ t.errors → s.place ≡ t.place → s.fresh ≡ t.fresh → s ≡ t
same-state s t a b c d e =
    ap (λ (x : List Item). state-of x s.actions s.errors s.place s.fresh) a
    ∙ ap (λ (x : List Action). state-of t.stack x s.errors s.place s.fresh) b
    ∙ ap (λ (x : List Complaint). state-of t.stack t.actions x s.place s.fresh) c
    ∙ ap (λ (x : ℕ). state-of t.stack t.actions t.errors x s.fresh) d
    ∙ ap (λ (x : ℕ). state-of t.stack t.actions t.errors t.place x) e

module _ (entries : List Entry) (part whole : List ℕ) (d : ℕ) (before : List Action) (earlier : List Complaint) (behind : List Item)
    (quiet : is_told d earlier ≡ false) where
  acted : (actions : List Action) (a : Action) → (before ++ actions) ++ (a ∷ []) ≡ before ++ (actions ++ (a ∷ []))
  acted actions a = append_assoc before actions (a ∷ [])

  stuck-alike : (b : Bool) (i : ℕ) (stack : List Item) (state : State)
      → stuck_by b i (stack ++ behind) (in_whole d before earlier behind state) ≡ in_whole d before earlier behind (stuck_by b i stack state)
  stuck-alike true i stack state = same-state _ _ refl (acted state.actions Skip)
      (noted-same d state.fresh earlier state.errors (record { rule = Some i; place = state.place }) quiet) (omega arith) refl
  stuck-alike false i stack state = same-state _ _ refl refl
      (noted-same d state.fresh earlier state.errors (record { rule = Some i; place = state.place }) quiet) refl refl

  moved-alike : (next : Option ℕ) (o : Option Move) (i : ℕ) (stack : List Item) (state : State)
      → (o ≡ None → skips entries i (stack ++ behind) next ≡ skips entries i stack next)
      → moved_by entries next o i (stack ++ behind) (in_whole d before earlier behind state) ≡ in_whole d before earlier behind (moved_by entries next o i stack state)
  moved-alike next None i stack state same =
      ap (λ (b : Bool). stuck_by b i (stack ++ behind) (in_whole d before earlier behind state)) (same refl)
      ∙ stuck-alike (skips entries i stack next) i stack state
  moved-alike next (Some (Take kind)) i stack state same = same-state _ _ refl (acted state.actions action.Token) refl (omega arith) (omega arith)
  moved-alike next (Some (Enter kind a)) i stack state same = same-state _ _ refl (acted state.actions (Open kind)) refl refl refl
  moved-alike next (Some (Begin a)) i stack state same = same-state _ _ refl (acted state.actions Mark) refl refl refl
  moved-alike next (Some (Surround kind a)) i stack state same = same-state _ _ refl (acted state.actions (Around kind)) refl refl refl
  moved-alike next (Some (Both a b)) i stack state same = refl
  moved-alike next (Some (Become a)) i stack state same = refl
  moved-alike next (Some Pass) i stack state same = refl

  step-alike : (stack : List Item) (state : State) → state.stack ≡ stack → IsAlike entries part whole d behind state
      → stepped entries whole (stack ++ behind) (in_whole d before earlier behind state) ≡ in_whole d before earlier behind (stepped entries part stack state)
  step-alike [] state is alike = absurd (alike.busy is)
  step-alike (End ∷ stack) state is alike = same-state _ _ refl (acted state.actions Close) refl refl refl
  step-alike (Leave ∷ stack) state is alike = same-state _ _ refl (acted state.actions Done) refl refl refl
  step-alike (Want i ∷ stack) state is alike =
      ap (λ (next : Option ℕ). moved_by entries next (move_of entries i next) i (stack ++ behind)
      (in_whole d before earlier behind (with_stack stack state))) alike.next
      ∙ moved-alike (slice_get part state.place) (move_of entries i (slice_get part state.place)) i stack (with_stack stack state)
      (λ e. alike.passes i stack is e)

  pub steps-alike : (k : ℕ) (state : State) → AreAlike entries part whole d behind k state
      → steps_of k entries whole (in_whole d before earlier behind state) ≡ in_whole d before earlier behind (steps_of k entries part state)
  steps-alike zero state alike = refl
  steps-alike (suc k) state alike =
      ap (steps_of k entries whole) (step-alike state.stack state refl (alike 0 (omega arith)))
      ∙ steps-alike k (step_of entries part state) (λ j less. alike (suc j) (omega arith))
