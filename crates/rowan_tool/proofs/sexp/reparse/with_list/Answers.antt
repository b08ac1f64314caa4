use Rattle.std.proofs.Common.{subst}
use Rattle.std.proofs.lemmas.Result.{err_from_is_err_and}
use Rattle.rowan_tool.proofs.AncestorLemmas.{IsClimbing, climb-goes-on, climb-refused}
use Rattle.rowan_tool.proofs.sexp.reparse.with_list.Goals as goal

pub returns-in_err-green-clause-err : goal.returns-in_err-green-clause-err
returns-in_err-green-clause-err c =
    let all = c.args.ancestors.items in
    let above = c.pop.new.self.items in
    let green = c.loop-ancestor.green in
    let climbing = subst (λ xs. IsClimbing all c.args.list xs green) c.in-Some.ensures.items
    c.loop-ancestor.invariant.0 in
    let p = err_from_is_err_and c.from_residual.result c.from_residual.ensures.1 in
    rw (p.1, p.2) (λ not_memory. (
      c.in_err-green.ensures.text not_memory,
      climb-refused all c.args.list above c.in-Some.ancestor green c.in_err-green.field-0.0 climbing
          (c.in_err-green.ensures.err not_memory),
    ))

pub loop-ancestor-preserved : goal.loop-ancestor-preserved
loop-ancestor-preserved c =
    let all = c.args.ancestors.items in
    let above = c.pop.new.self.items in
    let green = c.loop-ancestor.green in
    let climbing = subst (λ xs. IsClimbing all c.args.list xs green) c.in-Some.ensures.items
    c.loop-ancestor.invariant.0 in (
      climb-goes-on all c.args.list above c.in-Some.ancestor green c.in_ok-green.green climbing
          c.in_ok-green.ensures.ok.0,
      c.in_ok-green.ensures.fits,
    )
