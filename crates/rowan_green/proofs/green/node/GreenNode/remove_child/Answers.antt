use Rattle.std.proofs.lemmas.Result.{IfErr-weaker}
use Rattle.std.proofs.Common.{◌≡◌, ◌≢◌, ◌+◌, ◌++◌, drop, ap, subst}
use Rattle.rowan_green.specs.declared.fault.Fault.TheVariants.{Memory}
use Rattle.rowan_green.specs.Edits.{removed}
use Rattle.rowan_green.specs.Fits.{PassesLimit}
use Rattle.rowan_green.specs.Term.{node_children}
use Rattle.rowan_green.proofs.EditLemmas.{memory_only, AreWithin-removed}
use Rattle.rowan_green.proofs.green.node.GreenNode.remove_child.Goals as goal

pub returns-in_err-draft-clause-within : goal.returns-in_err-draft-clause-within
returns-in_err-draft-clause-within c =
    AreWithin-removed c.args.index (node_children c.args.self.now) c.child_count.ensures.within

pub returns-clause-within : goal.returns-clause-within
returns-clause-within c =
    AreWithin-removed c.args.index (node_children c.args.self.now) c.child_count.ensures.within

pub returns-clause-err : goal.returns-clause-err
returns-clause-err c =
    let ts = node_children c.args.self.now in
    let i = c.args.index in
    let rest = ap (λ d. d ++ drop (i + 1) ts) c.in_ok-draft.ensures in
    IfErr-weaker c.finish_after.result
    (λ e. e ≢ Memory → PassesLimit (c.in_ok-draft.draft ++ drop (i + 1) ts) e) (λ e. e ≡ Memory)
    (λ e passes. memory_only (removed ts i) e (AreWithin-removed i ts c.child_count.ensures.within)
    (λ not_memory. subst (λ us. PassesLimit us e) rest (passes not_memory)))
    c.finish_after.ensures.err
