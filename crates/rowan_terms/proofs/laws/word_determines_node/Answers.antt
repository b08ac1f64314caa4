use Rattle.rowan_terms.proofs.Words.{node_word-injective}
use Rattle.rowan_terms.proofs.laws.word_determines_node.Goals as goal

pub returns : goal.returns
returns c = node_word-injective
