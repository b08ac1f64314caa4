use Rattle.std.proofs.Common.{ap}
use Rattle.std.proofs.lemmas.Result.{err_from_is_err_and}
use Rattle.rowan_parser.proofs.Steps.{IsBuilding-token}
use Rattle.rowan_parser.proofs.Refusals.{token_not_put}
use Rattle.rowan_parser.proofs.Passing.{puts_token}
use Rattle.rowan_parser.proofs.tree.put_token.Goals as goal

pub returns-clause-ok : goal.returns-clause-ok
returns-clause-ok c =
    let at = c.in-Some.ensures.lookup in
    IsBuilding-token _ _ _ c.args.progress c.in-Some.token.now _ c.requires
    (ap (λ b. b.word) c.in_ok-token.ensures.ok) at.3.0 at.1 c.next_after.ensures

pub returns-in_err-token-clause-err : goal.returns-in_err-token-clause-err
returns-in_err-token-clause-err c =
    let at = c.in-Some.ensures.lookup in
    let p = err_from_is_err_and c.from_residual.result c.from_residual.ensures.1 in
    rw (p.1, p.2) (token_not_put _ _ c.in-Some.token.now _ at.3.0 at.1 c.in_err-token.ensures.err)

pub returns-clause-puts : goal.returns-clause-puts
returns-clause-puts c =
    let at = c.in-Some.ensures.lookup in
    puts_token _ _ _ _ c.in-Some.token.now at.3.0 at.1 (ap (λ b. b.word) c.in_ok-token.ensures.ok)
