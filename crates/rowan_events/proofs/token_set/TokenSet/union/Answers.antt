use Rattle.rowan_events.proofs.Sets.{has-or}
use Rattle.rowan_events.proofs.token_set.TokenSet.union.Goals as goal

pub returns : goal.returns
returns c = λ k. has-or c.args.self.0 c.args.other.0 k
