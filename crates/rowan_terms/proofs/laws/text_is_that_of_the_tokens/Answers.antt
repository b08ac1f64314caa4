use Rattle.rowan_terms.proofs.LeafLaws.{text-tokens}
use Rattle.rowan_terms.proofs.OffsetLemmas.{text-cut, range-within}
use Rattle.rowan_terms.proofs.laws.text_is_that_of_the_tokens.Goals as goal

pub returns-clause-joined : goal.returns-clause-joined
returns-clause-joined c = text-tokens

pub returns-clause-at_path : goal.returns-clause-at_path
returns-clause-at_path c = text-cut

pub returns-clause-within : goal.returns-clause-within
returns-clause-within c = range-within
