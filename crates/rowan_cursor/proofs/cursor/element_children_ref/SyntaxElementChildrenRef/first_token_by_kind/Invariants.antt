use Rattle.std.proofs.Common.{◌≡◌}
use Rattle.rowan_cursor.specs.Kinds.{first_of_kind, tokens_in}
use Rattle.rowan_cursor.specs.Refs.{rest_of_elements}
use Rattle.rowan_cursor.proofs.cursor.element_children_ref.SyntaxElementChildrenRef.first_token_by_kind.Given as goal

abbrev pub invariant-loop-element : goal.invariant-loop-element
invariant-loop-element l =
    let k = l.kind.0 in
    ((goal.iterator-loop-element).can_next l.self × (goal.iterator-loop-element).is_finite l.self)
    × (first_of_kind k (tokens_in (rest_of_elements l.initial.self))
    ≡ first_of_kind k (tokens_in (rest_of_elements l.self)))
