use Rattle.rowan_terms.proofs.PutOrders.{makes-same, makes-permuted}
use Rattle.rowan_terms.proofs.laws.order_of_separate_replacements_is_free.Goals as goal

pub returns-clause-same : goal.returns-clause-same
returns-clause-same c = makes-same

pub returns-clause-any : goal.returns-clause-any
returns-clause-any c = makes-permuted
