-- Runs, call by call.
use Rattle.std.proofs.Common.{◌≡◌, ◌+◌, ◌<◌, List, [], ◌∷◌, ◌++◌, ℕ, fold, length, take, get_or}
use Rattle.std.proofs.Common.{refl, sym, ◌∙◌, ap, subst, append_assoc}
use Rattle.std.proofs.lemmas.Grind.{fold-append}
use Rattle.std.proofs.lemmas.List.{append-nil, take_more}
use Rattle.rowan_builder.specs.Builder.{BuilderValue}
use Rattle.rowan_builder.specs.Cache.{intern}
use Rattle.rowan_builder.specs.Stream.{intern_all}
use Rattle.rowan_green.specs.Term.{Term}
use Rattle.rowan_green.specs.Word.{Symbol}
use Rattle.rowan_script.specs.declared.script.calls.Call.{Call}
use Rattle.rowan_script.specs.declared.script.calls.Outcome.{Outcome}
use Rattle.rowan_script.specs.declared.script.calls.Outcome.TheVariants.{Accepted, Marked, Refused}
use Rattle.rowan_script.specs.Rewriting.{Performs, with_mark, InTurn}
use Rattle.rowan_script.specs.Requests.{requests_of, requests_in_turn, stream}
use Rattle.rowan_script.specs.Run.{Advances, Run}

-- ---- marks

-- the marks after calls with these outcomes
abbrev pub with_marks : List ℕ → List Outcome → List ℕ
with_marks marks outcomes = fold with_mark marks outcomes

-- an outcome that is no mark leaves the marks
pub with_mark-other : (marks : List ℕ) (outcome : Outcome) → ((c : ℕ) → outcome ≡ Marked c → ⊥)
    → with_mark marks outcome ≡ marks
with_mark-other marks Accepted other = refl
with_mark-other marks (Marked c) other = absurd (other c refl)
with_mark-other marks (Refused fault) other = refl

-- one more outcome behind the others
pub with_marks-more : (before after : List ℕ) (outcomes more : List Outcome) (outcome : Outcome)
    → before ≡ with_marks [] outcomes
    → more ≡ outcomes ++ outcome ∷ []
    → after ≡ with_mark before outcome
    → after ≡ with_marks [] more
with_marks-more before after outcomes more outcome so_far e one =
    one ∙ ap (λ marks. with_mark marks outcome) so_far
    ∙ sym (fold-append with_mark [] outcomes (outcome ∷ []))
    ∙ ap (λ os. with_marks [] os) (sym e)

-- ---- runs

-- calls that go from w to u in turn, and ask the cache for these terms
Asks : List ℕ → List Symbol → List Call → List Outcome → List Symbol → List Term → Type 0
Asks marks w calls outcomes u ts =
    (turns : InTurn marks w calls outcomes u)
    × (requests_in_turn marks w calls outcomes u turns ≡ ts)

-- one more call behind calls in turn, with what all of them ask for
InTurn-append : (calls : List Call) (outcomes : List Outcome) (marks : List ℕ) (w v u : List Symbol)
    (call : Call) (outcome : Outcome)
    (turns : InTurn marks w calls outcomes v)
    (step : Performs (with_marks marks outcomes) v call outcome u)
    → Asks marks w (calls ++ call ∷ []) (outcomes ++ outcome ∷ []) u (requests_in_turn marks w calls
    outcomes v turns ++ requests_of (with_marks marks outcomes) v call outcome u step.gives)
unfolding Asks
InTurn-append [] [] marks w v u call outcome turns step =
    subst (λ x. Asks marks x (call ∷ []) (outcome ∷ []) u (requests_of marks v call outcome u
    step.gives)) turns (
      (u, step, refl),
      append-nil (requests_of marks v call outcome u
          step.gives),
    )
InTurn-append [] (o ∷ outcomes) marks w v u call outcome turns step = absurd turns
InTurn-append (x ∷ calls) [] marks w v u call outcome turns step = absurd turns
InTurn-append (x ∷ calls) (o ∷ outcomes) marks w v u call outcome turns step =
    let here = requests_of marks w x o turns.0 turns.1.gives in
    let rest = requests_in_turn (with_mark marks o) turns.0 calls outcomes v turns.2 in
    let more = InTurn-append calls outcomes (with_mark marks o) turns.0 v u call outcome turns.2
    step in (
      (turns.0, turns.1, more.0),
      ap (λ ts. here ++ ts) more.1
          ∙ sym (append_assoc here rest (requests_of (with_marks marks (o ∷ outcomes)) v call
          outcome u step.gives)),
    )

Run-append : (calls : List Call) (outcomes : List Outcome) (old new last : BuilderValue)
    (call : Call) (outcome : Outcome)
    → Run old calls outcomes new
    → Advances (with_marks [] outcomes) new call outcome last
    → Run old (calls ++ call ∷ []) (outcomes ++ outcome ∷ []) last
unfolding Asks
Run-append calls outcomes old new last call outcome run one =
    let before = stream run.words in
    let here = requests_of (with_marks [] outcomes) new.word call outcome last.word
    one.performs.gives in
    let more = InTurn-append calls outcomes [] old.word new.word last.word call outcome
    run.words.in_turn one.performs in
    record {
      words = record { in_turn = more.0 };
      interns = one.interns ∙ ap (λ cache. intern_all cache here) run.interns
          ∙ sym (fold-append intern old.cache before here) ∙ ap (intern_all old.cache) (sym more.1);
    }

-- the run of the first calls goes on by the next of them
pub Run-more : (calls : List Call) (i : ℕ) (outcomes more : List Outcome) (marks : List ℕ)
    (old new last : BuilderValue) (call : Call) (outcome : Outcome)
    → i < length calls
    → call ≡ get_or calls i call
    → more ≡ outcomes ++ outcome ∷ []
    → marks ≡ with_marks [] outcomes
    → Run old (take i calls) outcomes new
    → Advances marks new call outcome last
    → Run old (take (i + 1) calls) more last
Run-more calls i outcomes more marks old new last call outcome below at e taken run one =
    let longer : take (i + 1) calls ≡ take i calls ++ call ∷ [] = take_more calls i call below
    ∙ ap (λ x. take i calls ++ x ∷ []) (sym at) in
    subst (λ xs. Run old xs more last) (sym longer)
    (subst (λ os. Run old (take i calls ++ call ∷ []) os last) (sym e)
    (Run-append (take i calls) outcomes old new last call outcome run
    (subst (λ ms. Advances ms new call outcome last) taken one)))
