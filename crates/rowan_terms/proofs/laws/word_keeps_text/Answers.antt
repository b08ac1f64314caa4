use Rattle.rowan_terms.proofs.Words.{word_text-terms}
use Rattle.rowan_terms.proofs.laws.word_keeps_text.Goals as goal

pub returns : goal.returns
returns c = word_text-terms
