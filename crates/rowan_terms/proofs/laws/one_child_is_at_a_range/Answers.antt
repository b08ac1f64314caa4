use Rattle.rowan_green.specs.Search.{has_bytes}
use Rattle.rowan_green.proofs.SearchLemmas.{one_child-at, child-at-place, has-range, inside-node}
use Rattle.rowan_terms.proofs.laws.one_child_is_at_a_range.Goals as goal

pub returns-clause-one : goal.returns-clause-one
returns-clause-one c = one_child-at

pub returns-clause-bytes : goal.returns-clause-bytes
returns-clause-bytes c = λ ts a b k some. (has-range ts a b k, has_bytes some)

pub returns-clause-places : goal.returns-clause-places
returns-clause-places c = child-at-place

pub returns-clause-has : goal.returns-clause-has
returns-clause-has c = has-range

pub returns-clause-inside : goal.returns-clause-inside
returns-clause-inside c = inside-node
