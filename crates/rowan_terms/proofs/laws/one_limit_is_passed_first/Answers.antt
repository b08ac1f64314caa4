use Rattle.rowan_terms.proofs.EditLaws.{one_limit}
use Rattle.rowan_green.proofs.EditLemmas.{not_within}
use Rattle.rowan_terms.proofs.laws.one_limit_is_passed_first.Goals as goal

pub returns-clause-excluded : goal.returns-clause-excluded
returns-clause-excluded c = not_within

pub returns-clause-one : goal.returns-clause-one
returns-clause-one c = one_limit
