use Rattle.rowan_predictive.proofs.CauseLemmas.{at-place, with-steps}
use Rattle.rowan_predictive.proofs.finding.note_busy.Goals as goal

pub returns : goal.returns
returns c = λ rules all.
    with-steps rules c.args.facts.now.items c.args.number c.in-Some.found.now all
    (at-place c.args.facts.now.items c.args.number c.in-Some.found.now c.in-Some.ensures.item.0 c.in-Some.ensures.item.1) _ _
