use Rattle.rowan_predictive.proofs.CauseLemmas.{seq-through, seq-first}
use Rattle.rowan_predictive.proofs.finding.seq_begun.Goals as goal

pub returns-then-left : goal.returns-then-left
returns-then-left c = λ rules i a b h so too.
    seq-through rules i a b c.args.left c.args.right so too _ c.union.ensures h c.if-left.true

pub returns : goal.returns
returns c = λ rules i a b h so too. seq-first rules i a b c.args.left c.args.right so too h
