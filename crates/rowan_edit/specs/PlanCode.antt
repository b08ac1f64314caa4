-- A plan is stored as its root, and its edits as their parts.
use Rattle.std.specs.Prelude.{ℕ, List, refl}
use Rattle.std.specs.Coded.{Coded, code_by, coded×, coded_ℕ, coded_list}
use Rattle.rowan_green.specs.Coding.{coded_node, coded_term}
use Rattle.rowan_green.specs.Term.{NodeTerm, Term}
use Rattle.rowan_changes.specs.Edit.{Edit}
use Rattle.rowan_changes.specs.Plan.{Plan}

abbrev pub coded_edit : Coded Edit
coded_edit =
    code_by (List ℕ × (ℕ × (ℕ × List Term)))
    (coded× (coded_list coded_ℕ) (coded× coded_ℕ (coded× coded_ℕ (coded_list coded_term))))
    (λ e. (e.parent, (e.start, (e.end, e.new))))
    (λ p. record { parent = p.0; start = p.1.0; end = p.1.1.0; new = p.1.1.1 }) (λ _. refl)

abbrev pub coded_plan : Coded Plan
coded_plan =
    code_by (NodeTerm × List Edit) (coded× coded_node (coded_list coded_edit))
    (λ p. (p.root, p.edits)) (λ p. record { root = p.0; edits = p.1 }) (λ _. refl)
