use Rattle.std.proofs.Common.{◌≡◌}
use Rattle.std.specs.Prelude.{not}
use Rattle.std.specs.List.{find}
use Rattle.rowan_api.specs.Refs.{element_place, rest_of_elements}
use Rattle.rowan.specs.Around.{other_siblings}
use Rattle.rowan.specs.Ast.{is_token_of, means_one_of}
use Rattle.rowan.proofs.ast.algo.non_trivia_sibling.Given as goal

abbrev pub invariant-loop-sibling : goal.invariant-loop-sibling
invariant-loop-sibling g l =
    let means = means_one_of g.L.Language.meaning g.L.Kind.PartialEq.eq l.fn.trivia in
    (goal.iterator-loop-sibling g).can_next l.siblings
    × (goal.iterator-loop-sibling g).is_finite l.siblings
    × (find (λ e. not (is_token_of means e)) (rest_of_elements l.siblings)
    ≡ find (λ e. not (is_token_of means e)) (other_siblings l.fn.direction (element_place l.fn.element)))
