use Rattle.rowan_predictive.proofs.CauseLemmas.{between, past}
use Rattle.rowan_predictive.proofs.finding.before_part.Goals as goal

pub returns-then-right : goal.returns-then-right
returns-then-right c = λ rules i a h all follows.
    past rules i a c.args.number c.facts_of-right.result h (c.facts_of-right.ensures rules all) c.args.behind
    c.union.result c.if-right.true c.union.ensures follows

pub returns : goal.returns
returns c = λ rules i a h all follows.
    between rules i a c.args.number c.facts_of-right.result h (c.facts_of-right.ensures rules all)
