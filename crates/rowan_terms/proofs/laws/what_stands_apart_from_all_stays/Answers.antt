use Rattle.rowan_terms.proofs.PutOrders.{subterm-made, range-made, subterm-new}
use Rattle.rowan_terms.proofs.laws.what_stands_apart_from_all_stays.Goals as goal

pub returns-clause-subterm : goal.returns-clause-subterm
returns-clause-subterm c = subterm-made

pub returns-clause-range : goal.returns-clause-range
returns-clause-range c = range-made

pub returns-clause-new : goal.returns-clause-new
returns-clause-new c = subterm-new
