use Rattle.std.proofs.Common.{subst, sym}
use Rattle.rowan_predictive.specs.Causes.{AreSo}
use Rattle.rowan_predictive.proofs.CauseLemmas.{at-place, with-begun}
use Rattle.rowan_predictive.proofs.finding.note_begun.Goals as goal

pub returns : goal.returns
returns c = λ rules h all.
    with-begun rules c.args.facts.now.items c.args.number c.in-Some.found.now all
    (at-place c.args.facts.now.items c.args.number c.in-Some.found.now c.in-Some.ensures.item.0 c.in-Some.ensures.item.1)
    _ _ (c.begun_by-is_empty.ensures rules c.args.number (subst (λ x. AreSo rules x) (sym c.as_slice.ensures.value) all) h)
