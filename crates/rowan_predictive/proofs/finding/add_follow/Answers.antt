use Rattle.rowan_predictive.proofs.CauseLemmas.{at-place, with-follow}
use Rattle.rowan_predictive.proofs.finding.add_follow.Goals as goal

pub returns : goal.returns
returns c = λ rules follows all.
    with-follow rules c.args.facts.now.items c.args.number c.in-Some.found.now all
    (at-place c.args.facts.now.items c.args.number c.in-Some.found.now c.in-Some.ensures.item.0 c.in-Some.ensures.item.1)
    c.args.kinds _ c.union-follow.ensures follows
