use Rattle.rowan_green.specs.Same.{same_node-decides, same_token-decides}
use Rattle.rowan_terms.proofs.laws.equality_is_of_terms.Goals as goal

pub returns-clause-nodes : goal.returns-clause-nodes
returns-clause-nodes c = same_node-decides

pub returns-clause-tokens : goal.returns-clause-tokens
returns-clause-tokens c = same_token-decides
