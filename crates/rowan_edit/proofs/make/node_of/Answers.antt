use Rattle.std.proofs.Common.{◌∙◌, ap, sym, subst}
use Rattle.std.specs.Vec.Iter.{into_iter_items}
use Rattle.std.proofs.lemmas.Result.{IfErr-weaker}
use Rattle.rowan_green.specs.Fits.{PassesLimit, WhyNoNode}
use Rattle.rowan_green.proofs.EditLemmas.{PassesLimit-append}
use Rattle.rowan_changes.proofs.RunLemmas.{run-begins}
use Rattle.rowan_edit.proofs.make.node_of.Goals as goal

pub returns-clause-err : goal.returns-clause-err
returns-clause-err c = IfErr-weaker c.new.result _ (WhyNoNode c.args.children.items)
    (λ e why other. (let s = why other in
    let rest = run-begins s.2.0 in
    let parts = sym s.1.0 ∙ ap into_iter_items (sym s.2.1) ∙ rest.1 in
    subst (λ ts. PassesLimit ts e) (sym parts) (PassesLimit-append s.2.0.items rest.0 e s.2.2)))
    c.new.ensures.err
