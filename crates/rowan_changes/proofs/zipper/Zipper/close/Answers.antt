use Rattle.std.proofs.Common.{◌≢◌, [], take, refl, ◌∙◌, ap}
use Rattle.std.proofs.lemmas.Result.{err_from_is_err_and}
use Rattle.rowan_green.specs.declared.fault.Fault.TheVariants.{Memory}
use Rattle.rowan_green.specs.declared.utility_types.NodeOrToken.TheVariants.{Node}
use Rattle.rowan_changes.specs.Zipper.{tree_of, path_of}
use Rattle.rowan_changes.proofs.Ways.{top-tree, ok-from, err-from}
use Rattle.rowan_changes.proofs.ZipperLemmas.{passes-around}
use Rattle.rowan_changes.proofs.zipper.Zipper.close.Goals as goal

pub returns-in_err-inner-clause-err : goal.returns-in_err-inner-clause-err
returns-in_err-inner-clause-err c =
    let p = err_from_is_err_and c.from_residual.result c.from_residual.ensures.1 in
    let fault = c.in_err-inner.field-0.0 in
    rw (p.1, p.2) (λ (other : fault ≢ Memory). (
    let h = c.in_err-inner.ensures.err other in
    (take h.depth (path_of c.args.self), h.passes)))

pub returns-clause-ok : goal.returns-clause-ok
returns-clause-ok c =
    let z = c.in_ok-inner.field-0 in
    let top = top-tree z z.inner (tree_of c.args.self) c.in_ok-inner.ensures.count refl
    c.in_ok-inner.ensures.tree in
    ok-from c.close.result (λ n h. ap Node h ∙ top) c.close.ensures.ok

pub returns-clause-err : goal.returns-clause-err
returns-clause-err c =
    let z = c.in_ok-inner.field-0 in
    let t = tree_of c.args.self in
    let top = top-tree z z.inner t c.in_ok-inner.ensures.count refl c.in_ok-inner.ensures.tree in
    err-from c.close.result
    (λ e h other. ([], passes-around [] z.inner t [] e (h other) top refl)) c.close.ensures.err
