use Rattle.rowan_terms.proofs.PutRanges.{range-before}
use Rattle.rowan_terms.proofs.SeparateLemmas.{separate-sym, separate-or_begins, before-separate}
use Rattle.rowan_terms.proofs.laws.separate_paths_are_in_order.Goals as goal

pub returns-clause-symmetric : goal.returns-clause-symmetric
returns-clause-symmetric c = separate-sym

pub returns-clause-begins : goal.returns-clause-begins
returns-clause-begins c = separate-or_begins

pub returns-clause-order : goal.returns-clause-order
returns-clause-order c = before-separate

pub returns-clause-ranges : goal.returns-clause-ranges
returns-clause-ranges c = range-before
