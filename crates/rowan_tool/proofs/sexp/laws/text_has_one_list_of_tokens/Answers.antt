use Rattle.rowan_sexp.proofs.LexedLemmas.{lexed-exists, lexed-unique}
use Rattle.rowan_tool.proofs.sexp.laws.text_has_one_list_of_tokens.Goals as goal

pub returns-clause-some : goal.returns-clause-some
returns-clause-some c = lexed-exists

pub returns-clause-one : goal.returns-clause-one
returns-clause-one c = lexed-unique
