use Rattle.rowan_terms.proofs.LeafLaws.{word_text-tokens, word_tokens-terms, tokens-finished}
use Rattle.rowan_terms.proofs.laws.word_keeps_tokens.Goals as goal

pub returns-clause-terms : goal.returns-clause-terms
returns-clause-terms c = word_tokens-terms

pub returns-clause-tree : goal.returns-clause-tree
returns-clause-tree c = tokens-finished

pub returns-clause-text : goal.returns-clause-text
returns-clause-text c = word_text-tokens
