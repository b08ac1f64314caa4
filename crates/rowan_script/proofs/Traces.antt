-- Traces: one more step.
use Rattle.std.proofs.Common.{◌≡◌, ℕ, ◌<◌, ◌+◌, List, [], ◌∷◌, ◌++◌, length, take, get_or, refl}
use Rattle.std.proofs.Common.{sym, ◌∙◌, ap, subst}
use Rattle.std.proofs.lemmas.List.{take_more}
use Rattle.rowan_table.specs.Moves.{Element}
use Rattle.rowan_script.specs.declared.script.steps.Report.{Report}
use Rattle.rowan_script.specs.declared.script.steps.Step.{Step}
use Rattle.rowan_script.specs.Trace.{IsReport, element_after, last_element, ReportsInTurn, Trace}

-- ---- one more step

last_element-append : (reports : List Report) (e : Element) (report : Report)
    → last_element e (reports ++ report ∷ []) ≡ element_after (last_element e reports) report
last_element-append [] e report = refl
last_element-append (r ∷ reports) e report = last_element-append reports (element_after e r) report

turns-append : (steps : List Step) (reports : List Report) (e : Element) (step : Step)
    (report : Report) → ReportsInTurn e steps reports
    → IsReport (last_element e reports) step report
    → ReportsInTurn e (steps ++ step ∷ []) (reports ++ report ∷ [])
turns-append [] [] e step report turns one = (one, tt)
turns-append [] (r ∷ reports) e step report turns one = absurd turns
turns-append (s ∷ steps) [] e step report turns one = absurd turns
turns-append (s ∷ steps) (r ∷ reports) e step report turns one = (
  turns.0,
  turns-append steps reports (element_after e r) step report turns.1 one,
)

-- the trace of the first steps goes on by the next of them
pub Trace-more : (steps : List Step) (i : ℕ) (reports more : List Report) (e here : Element)
    (step : Step) (report : Report)
    → i < length steps
    → step ≡ get_or steps i step
    → more ≡ reports ++ report ∷ []
    → here ≡ last_element e reports
    → Trace e (take i steps) reports
    → IsReport here step report
    → Trace e (take (i + 1) steps) more
Trace-more steps i reports more e here step report below at longer stands trace one =
    let taken : take (i + 1) steps ≡ take i steps ++ step ∷ [] = take_more steps i step below
    ∙ ap (λ x. take i steps ++ x ∷ []) (sym at) in
    let last : IsReport (last_element e reports) step report = subst (λ x. IsReport x step report)
    stands one in
    let turns = turns-append (take i steps) reports e step report trace.in_turn last in
    subst (λ xs. Trace e xs more) (sym taken) (subst (λ rs. Trace e (take i steps ++ step ∷ []) rs)
    (sym longer) (record { in_turn = turns }))

pub last_element-more : (reports more : List Report) (e here there : Element) (report : Report)
    → more ≡ reports ++ report ∷ []
    → here ≡ last_element e reports
    → there ≡ element_after here report
    → there ≡ last_element e more
last_element-more reports more e here there report longer stands led =
    led ∙ ap (λ x. element_after x report) stands ∙ sym (last_element-append reports e report)
    ∙ ap (last_element e) (sym longer)
