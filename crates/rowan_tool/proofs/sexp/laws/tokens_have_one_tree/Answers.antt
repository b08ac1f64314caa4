use Rattle.rowan_sexp.proofs.GrammarLemmas.{sexp_exists, sexp-unique}
use Rattle.rowan_sexp.proofs.LexedLemmas.{parse-exists, parse-unique}
use Rattle.rowan_tool.proofs.sexp.laws.tokens_have_one_tree.Goals as goal

pub returns-clause-some : goal.returns-clause-some
returns-clause-some c = sexp_exists

pub returns-clause-one : goal.returns-clause-one
returns-clause-one c = sexp-unique

pub returns-clause-parse : goal.returns-clause-parse
returns-clause-parse c = parse-exists

pub returns-clause-one_parse : goal.returns-clause-one_parse
returns-clause-one_parse c = parse-unique
