-- Pointers carried step by step: what is left to do, after each step of a trace.
use Rattle.std.proofs.Common.{◌≡◌, ◌⊎◌, List, [], ◌∷◌, ◌++◌, Option, Some, None, inl, inr, refl, sym, ◌∙◌, ap, subst}
use Rattle.std.specs.Option.{option_map, option_and_then}
use Rattle.rowan_green.specs.declared.utility_types.NodeOrToken.TheVariants.{Node}
use Rattle.rowan_terms.specs.Path.{range, put}
use Rattle.rowan_terms.specs.Replacements.{Replacement}
use Rattle.rowan_green.specs.Span.{Span}
use Rattle.rowan_green.specs.Term.{Term, term_len}
use Rattle.rowan_table.specs.Cursor.{Cursor, text_range}
use Rattle.rowan_table.specs.Moves.{Element, place_of}
use Rattle.rowan_script.specs.declared.script.steps.Report.{Report}
use Rattle.rowan_script.specs.declared.script.steps.Report.TheVariants.{Moved, Nowhere, Replaced, Refused}
use Rattle.rowan_script.specs.declared.script.steps.Step.{Step}
use Rattle.rowan.specs.Pointer.{Pointer, carried, carried_in_turn}
use Rattle.rowan.specs.Trace.{IsReport, ReportsInTurn, Trace, element_after, new_term, replacement_of, replacements, tree_of}
use Rattle.rowan.proofs.TraceLaws.{root-found}

-- the step and those behind it carry a pointer as the step, and then those behind it, do
carried-step : {K : Type 0} (e : Element) (step : Step) (report : Report) (rest : List Replacement) (p : Pointer K) → IsReport e step report
    → carried_in_turn (tree_of e) (replacement_of (place_of e) (new_term step) report ++ rest) p
    ≡ option_and_then (carried_in_turn (tree_of (element_after e report)) rest) (carried_in_turn (tree_of e) (replacement_of (place_of e) (new_term step) report) p)
carried-step e step (Moved found) rest p is = ap (λ root. carried_in_turn (Node root) rest p) (sym (root-found step (place_of e) found is.1))
carried-step e step Nowhere rest p is = refl
carried-step {K} e step (Replaced root) rest p is =
    let c = place_of e in
    let Goal : Option Term → Type 0 = λ o. carried_in_turn (tree_of e) (replacement_of c o (Replaced root) ++ rest) p ≡ option_and_then (carried_in_turn (Node root.root) rest) (carried_in_turn (tree_of e) (replacement_of c o (Replaced root)) p) in
    let new = is.1 in
    subst Goal (sym new.puts) (by (put (tree_of e) c.path new.new) _ (carried (range (tree_of e) c.path) (term_len new.new) p) (sym new.replaces.root))
  where
    by : (s t : Term) (o : Option (Pointer K)) → s ≡ t → option_and_then (carried_in_turn s rest) o ≡ option_and_then (carried_in_turn t rest) (option_and_then (λ p. Some p) o)
    by s t None same = refl
    by s t (Some x) same = ap (λ t. carried_in_turn t rest x) same
carried-step e step (Refused fault) rest p is = refl

-- the steps and reports that are left, from an element with the range `here`, carry a pointer to the last one
pub record IsLeft {K : Type 0} (steps : List Step) (reports : List Report) (here : Span) (pointer : Pointer K) (last : Option (Pointer K)) : Type 0 where
  pub from : Element
  pub at : here ≡ text_range (place_of from)
  pub in_turn : ReportsInTurn from steps reports
  pub is : last ≡ carried_in_turn (tree_of from) (replacements from steps reports) pointer

-- all of them, at first
pub left-all : {K : Type 0} (c : Cursor) (steps : List Step) (reports : List Report) (here : Span) (pointer : Pointer K) → here ≡ text_range c → Trace (Node c) steps reports
    → IsLeft steps reports here pointer (carried_in_turn (tree_of (Node c)) (replacements (Node c) steps reports) pointer)
left-all c steps reports here pointer at trace = record { from = Node c; at = at; in_turn = trace.in_turn; is = refl }

-- how one step carries a pointer
abbrev pub CarriesOver : {K : Type 0} → Step → Report → Span → Pointer K → Option (Pointer K × Span) → Type 0
CarriesOver {K} step report here pointer result =
    (e : Element) → IsReport e step report → here ≡ text_range (place_of e)
    → ◌≡◌ {A = Option (Pointer K × Span)} result (option_map (λ p. (p, text_range (place_of (element_after e report)))) (carried_in_turn (tree_of e) (replacement_of (place_of e) (new_term step) report) pointer))

-- the others, after a step that carries it
carried-there : {K : Type 0} (there here : Span) (o : Option (Pointer K)) (p : Pointer K) → ◌≡◌ {A = Option (Pointer K × Span)} (Some (p, here)) (option_map (λ x. (x, there)) o) → (o ≡ Some p) × (here ≡ there)
carried-there there here None p e = cc
carried-there {K} there here (Some x) p e =
    let same : ◌≡◌ {A = Pointer K × Span} (p, here) (x, there) = cc in
    (ap (λ y. Some y.0) (sym same), ap (λ y. y.1) same)

carried-nowhere : {K : Type 0} (there : Span) (o : Option (Pointer K)) → ◌≡◌ {A = Option (Pointer K × Span)} None (option_map (λ x. (x, there)) o) → o ≡ None
carried-nowhere there None e = refl
carried-nowhere there (Some x) e = cc

pub left-others : {K : Type 0} (step : Step) (report : Report) (steps : List Step) (reports : List Report) (here next : Span) (pointer new : Pointer K) (last : Option (Pointer K)) → IsLeft (step ∷ steps) (report ∷ reports) here pointer last → CarriesOver step report here pointer (Some (new, next)) → IsLeft steps reports next new last
left-others step report steps reports here next pointer new last left carries =
    let e = left.from in
    let rest = replacements (element_after e report) steps reports in
    let goes = carried-there (text_range (place_of (element_after e report))) next _ new (carries e left.in_turn.0 left.at) in
    record {
      from = element_after e report;
      at = goes.1;
      in_turn = left.in_turn.1;
      is = left.is ∙ carried-step e step report rest pointer left.in_turn.0 ∙ ap (option_and_then (carried_in_turn (tree_of (element_after e report)) rest)) goes.0;
    }

-- a step that carries it nowhere
pub left-nowhere : {K : Type 0} (step : Step) (report : Report) (steps : List Step) (reports : List Report) (here : Span) (pointer : Pointer K) (last : Option (Pointer K)) → IsLeft (step ∷ steps) (report ∷ reports) here pointer last → CarriesOver step report here pointer None → last ≡ None
left-nowhere step report steps reports here pointer last left carries =
    let e = left.from in
    let rest = replacements (element_after e report) steps reports in
    let goes = carried-nowhere (text_range (place_of (element_after e report))) _ (carries e left.in_turn.0 left.at) in
    left.is ∙ carried-step e step report rest pointer left.in_turn.0 ∙ ap (option_and_then (carried_in_turn (tree_of (element_after e report)) rest)) goes

-- the steps and reports that are left, from the next ones on
pub left-next : {K : Type 0} (ss steps : List Step) (rs reports : List Report) (step : Step) (report : Report) (here : Span) (pointer : Pointer K) (last : Option (Pointer K)) → (ss ≡ step ∷ steps) × (rs ≡ report ∷ reports) → IsLeft ss rs here pointer last → IsLeft (step ∷ steps) (report ∷ reports) here pointer last
left-next ss steps rs reports step report here pointer last next left =
    subst (λ xs. IsLeft xs (report ∷ reports) here pointer last) next.0 (subst (λ ys. IsLeft ss ys here pointer last) next.1 left)

-- none is left
pub left-none : {K : Type 0} (steps : List Step) (reports : List Report) (here : Span) (pointer : Pointer K) (last : Option (Pointer K)) → IsLeft steps reports here pointer last → (steps ≡ []) ⊎ (reports ≡ []) → Some pointer ≡ last
left-none [] reports here pointer last left none = sym left.is
left-none (step ∷ steps) [] here pointer last left none = sym left.is
left-none (step ∷ steps) (report ∷ reports) here pointer last left none = elim none [ inl h ↦ cc | inr h ↦ cc ]
