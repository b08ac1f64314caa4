use Rattle.rowan_terms.proofs.Words.{parts-unique}
use Rattle.rowan_terms.proofs.laws.word_has_one_reading.Goals as goal

pub returns : goal.returns
returns c = parts-unique
