use Rattle.rowan_green.proofs.Terms.{forest_text-forest, node_len-node_of}
use Rattle.rowan_terms.proofs.laws.node_has_its_children_text.Goals as goal

pub returns-clause-text : goal.returns-clause-text
returns-clause-text c = λ k. forest_text-forest

pub returns-clause-len : goal.returns-clause-len
returns-clause-len c = node_len-node_of
