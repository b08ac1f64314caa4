use Rattle.std.proofs.Common.{◌++◌, map, subst}
use Rattle.std.proofs.lemmas.Result.{err_from_is_err_and}
use Rattle.rowan_green.specs.Fits.{PassesLimit}
use Rattle.rowan_green.specs.View.{child_term}
use Rattle.rowan_green.proofs.green.node.GreenNode.from_shared.Goals as goal

pub returns-in_err-push_shared-clause-err : goal.returns-in_err-push_shared-clause-err
returns-in_err-push_shared-clause-err c =
    let p = err_from_is_err_and c.from_residual-in_err-push_shared.result
    c.from_residual-in_err-push_shared.ensures.1 in
    rw (p.1, p.2) (λ not_memory.
    subst (λ ts. PassesLimit (ts ++ map child_term c.args.elements.now)
    c.in_err-push_shared.field-0.0) c.new-draft.ensures
    (c.in_err-push_shared.ensures.err not_memory))
