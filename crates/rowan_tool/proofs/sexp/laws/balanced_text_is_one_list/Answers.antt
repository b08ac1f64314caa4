use Rattle.rowan_sexp.proofs.LexedLemmas.{parse-exists}
use Rattle.rowan_tool.proofs.OneListLemmas.{balanced-is-one-list, one-list-is-balanced}
use Rattle.rowan_tool.proofs.sexp.laws.balanced_text_is_one_list.Goals as goal

pub returns-clause-one : goal.returns-clause-one
returns-clause-one c = λ text utf8 balanced.
    let tree = parse-exists text utf8 in
    let list = balanced-is-one-list text tree.0 tree.1 balanced in
    (list.0, list.2)

pub returns-clause-balanced : goal.returns-clause-balanced
returns-clause-balanced c = one-list-is-balanced
