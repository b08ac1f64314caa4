use Rattle.rowan_terms.proofs.EditLaws.{replaced-itself, replaced-absent, removed-inserted}
use Rattle.rowan_terms.proofs.laws.some_edits_change_nothing.Goals as goal

pub returns-clause-itself : goal.returns-clause-itself
returns-clause-itself c = replaced-itself

pub returns-clause-past : goal.returns-clause-past
returns-clause-past c = replaced-absent

pub returns-clause-taken_back : goal.returns-clause-taken_back
returns-clause-taken_back c = removed-inserted
