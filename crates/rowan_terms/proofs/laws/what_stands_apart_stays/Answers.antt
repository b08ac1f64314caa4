use Rattle.rowan_terms.proofs.PutLemmas.{subterm-apart, subterm-put}
use Rattle.rowan_terms.proofs.PutRanges.{range-apart, offset-here}
use Rattle.rowan_terms.proofs.laws.what_stands_apart_stays.Goals as goal

pub returns-clause-subterm : goal.returns-clause-subterm
returns-clause-subterm c = subterm-apart

pub returns-clause-range : goal.returns-clause-range
returns-clause-range c = range-apart

pub returns-clause-new : goal.returns-clause-new
returns-clause-new c = subterm-put

pub returns-clause-start : goal.returns-clause-start
returns-clause-start c = offset-here
