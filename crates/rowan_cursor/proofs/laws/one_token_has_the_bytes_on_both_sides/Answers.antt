use Rattle.rowan_table.proofs.TouchLemmas.{one_token, token_alone}
use Rattle.rowan_cursor.proofs.laws.one_token_has_the_bytes_on_both_sides.Goals as goal

pub returns-clause-has : goal.returns-clause-has
returns-clause-has c = one_token

pub returns-clause-one : goal.returns-clause-one
returns-clause-one c = token_alone
