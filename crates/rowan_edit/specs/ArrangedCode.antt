-- A plan with arrangements is stored as its parts.
use Rattle.std.specs.Prelude.{◌≡◌, ℕ, List, Option, Some, None, refl}
use Rattle.std.specs.Coded.{Coded, code_by, coded×, coded_ℕ, coded_list, coded_option}
use Rattle.rowan_green.specs.Coding.{coded_node, coded_term}
use Rattle.rowan_green.specs.Term.{NodeTerm, Term}
use Rattle.rowan_edit.specs.declared.pieces.Piece.{Piece}
use Rattle.rowan_edit.specs.declared.pieces.Piece.TheVariants.{New, Old}
use Rattle.rowan_edit.specs.Arrangements.{Arrangement, ArrangedPlan}
use Rattle.rowan_changes.specs.Edit.{Edit}
use Rattle.rowan_edit.specs.PlanCode.{coded_edit}

abbrev pub piece_parts : Piece → Option Term × ℕ
piece_parts (New t) = (Some t, 0)
piece_parts (Old i) = (None, i)

abbrev pub piece_of : Option Term → ℕ → Piece
piece_of (Some t) i = New t
piece_of None i = Old i

abbrev pub piece_back : (p : Piece) → piece_of (piece_parts p).0 (piece_parts p).1 ≡ p
piece_back (New t) = refl
piece_back (Old i) = refl

abbrev pub coded_piece : Coded Piece
coded_piece =
    code_by (Option Term × ℕ) (coded× (coded_option coded_term) coded_ℕ) piece_parts
    (λ p. piece_of p.0 p.1) piece_back

abbrev pub coded_arrangement : Coded Arrangement
coded_arrangement =
    code_by (List ℕ × List Piece) (coded× (coded_list coded_ℕ) (coded_list coded_piece))
    (λ a. (a.path, a.pieces)) (λ p. record { path = p.0; pieces = p.1 }) (λ _. refl)

abbrev pub coded_arranged_plan : Coded ArrangedPlan
coded_arranged_plan =
    code_by (NodeTerm × (List Edit × List Arrangement))
    (coded× coded_node (coded× (coded_list coded_edit) (coded_list coded_arrangement)))
    (λ p. (p.root, (p.edits, p.arrangements)))
    (λ p. record { root = p.0; edits = p.1.0; arrangements = p.1.1 }) (λ _. refl)
