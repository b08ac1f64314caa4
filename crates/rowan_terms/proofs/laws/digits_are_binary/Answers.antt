use Rattle.rowan_green.proofs.SearchLemmas.{digits-le, lt-from_digits}
use Rattle.rowan_terms.proofs.laws.digits_are_binary.Goals as goal

pub returns : goal.returns
returns c = λ n d. (lt-from_digits n d, digits-le n d)
