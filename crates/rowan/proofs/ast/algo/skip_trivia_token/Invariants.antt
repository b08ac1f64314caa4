use Rattle.std.proofs.Common.{◌≡◌, length}
use Rattle.std.specs.Prelude.{not}
use Rattle.std.specs.List.{find}
use Rattle.rowan_api.specs.Refs.{token_place}
use Rattle.rowan.specs.Around.{other_tokens, tokens_from}
use Rattle.rowan.specs.Ast.{has_one_of}
use Rattle.rowan.proofs.ast.algo.skip_trivia_token.Given as goal

abbrev pub invariant-loop-direction : goal.invariant-loop-direction
invariant-loop-direction g l =
    let is_trivia = has_one_of g.L.Language.meaning g.L.Kind.PartialEq.eq l.fn.trivia in
    find (λ t. not (is_trivia t)) (tokens_from l.fn.direction (token_place l.here))
    ≡ find (λ t. not (is_trivia t)) (tokens_from l.fn.direction (token_place l.fn.token))

abbrev pub decreases-loop-direction : goal.decreases-loop-direction
decreases-loop-direction g l = length (other_tokens l.fn.direction (token_place l.here))
