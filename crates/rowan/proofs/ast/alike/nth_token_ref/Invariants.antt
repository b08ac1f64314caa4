use Rattle.std.proofs.Common.{◌≡◌}
use Rattle.std.specs.Prelude.{filter, slice_get}
use Rattle.rowan_table.specs.Moves.{children_with_tokens}
use Rattle.rowan_api.specs.Refs.{node_place, rest_of_elements}
use Rattle.rowan.specs.Ast.{is_token_of, means_one_of}
use Rattle.rowan.proofs.ast.alike.nth_token_ref.Given as goal

abbrev pub invariant-loop-element : goal.invariant-loop-element
invariant-loop-element g l =
    let means = means_one_of g.L.Language.meaning g.L.Kind.PartialEq.eq l.fn.kinds in
    (goal.iterator-loop-element g).can_next l.elements
    × (goal.iterator-loop-element g).is_finite l.elements
    × (slice_get (filter (is_token_of means) (rest_of_elements l.elements)) l.left
    ≡ slice_get (filter (is_token_of means) (children_with_tokens (node_place l.fn.parent)))
    l.fn.index)
