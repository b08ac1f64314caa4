use Rattle.std.proofs.Common.{◌≢◌, ◌≤◌, ◌++◌, length, take, ◌∙◌, ap, subst}
use Rattle.std.proofs.Common.{arith}
use Rattle.std.proofs.lemmas.Result.{err_from_is_err_and}
use Rattle.std.specs.Iterator.Runs.{ItemsAre}
use Rattle.std.specs.Vec.Iter.{into_iter_items}
use Rattle.rowan_green.specs.declared.fault.Fault.TheVariants.{Memory}
use Rattle.rowan_green.specs.Fits.{PassesLimit}
use Rattle.rowan_green.specs.Term.{node_children}
use Rattle.rowan_changes.proofs.OpenNodeLemmas.{run-begins, passes-all}
use Rattle.rowan_changes.proofs.open_node.OpenNode.close.Goals as goal

pub returns-in_err-closed-clause-err : goal.returns-in_err-closed-clause-err
returns-in_err-closed-clause-err c =
    let p = err_from_is_err_and c.from_residual.result c.from_residual.ensures.1 in
    let cs = node_children c.args.self.node.now in
    let fault = c.in_err-closed.field-0.0 in
    let len : length cs ≤ c.len.result =
    omega (arith, c.len.ensures.value, ap length c.children.ensures.list) in
    rw (p.1, p.2) (λ (other : fault ≢ Memory). (
    let run = c.in_err-closed.ensures.err other in
    let q = run.2.0 in
    let xs = c.reverse.new.self.items in
    let are : ItemsAre q xs =
    subst (ItemsAre q) (ap into_iter_items run.2.1 ∙ run.1.0) (run.1.3 q q.seen) in
    subst (λ ys. PassesLimit (take c.args.self.kept cs ++ ys) fault) c.reverse.ensures.items
    (passes-all cs c.args.self.kept c.len.result q.items xs q.whole fault len (run-begins q xs are)
    are.4 run.2.2)))
