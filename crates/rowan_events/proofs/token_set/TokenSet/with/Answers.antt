use Rattle.std.proofs.Common.{arith}
use Rattle.rowan_events.proofs.Sets.{has-with}
use Rattle.rowan_events.proofs.token_set.TokenSet.with.Goals as goal

pub returns : goal.returns
returns c = λ k. has-with c.args.self.0 c.args.kind.0 k (omega arith)
