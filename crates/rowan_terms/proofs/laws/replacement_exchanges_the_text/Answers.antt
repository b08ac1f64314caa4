use Rattle.rowan_terms.proofs.PutRanges.{put-len}
use Rattle.rowan_terms.proofs.PutText.{put-text}
use Rattle.rowan_terms.proofs.laws.replacement_exchanges_the_text.Goals as goal

pub returns-clause-text : goal.returns-clause-text
returns-clause-text c = put-text

pub returns-clause-len : goal.returns-clause-len
returns-clause-len c = put-len
