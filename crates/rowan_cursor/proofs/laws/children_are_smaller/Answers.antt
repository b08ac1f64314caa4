use Rattle.rowan_cursor.proofs.SmallerLemmas.{children-smaller, child-elements-smaller}
use Rattle.rowan_cursor.proofs.laws.children_are_smaller.Goals as goal

pub returns-clause-nodes : goal.returns-clause-nodes
returns-clause-nodes c = λ d. children-smaller d

pub returns-clause-elements : goal.returns-clause-elements
returns-clause-elements c = λ d. child-elements-smaller d
