use Rattle.rowan_tool.proofs.ReparseLemmas.{reparsed}
use Rattle.rowan_tool.proofs.sexp.laws.one_list_in_place_is_parsed.Goals as goal

pub returns : goal.returns
returns c = reparsed
