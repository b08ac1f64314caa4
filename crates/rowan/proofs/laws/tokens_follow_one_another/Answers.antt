use Rattle.rowan.proofs.TokenLemmas.{next-step, prev-step}
use Rattle.rowan.proofs.laws.tokens_follow_one_another.Goals as goal

pub returns-clause-next : goal.returns-clause-next
returns-clause-next c = next-step

pub returns-clause-prev : goal.returns-clause-prev
returns-clause-prev c = prev-step
