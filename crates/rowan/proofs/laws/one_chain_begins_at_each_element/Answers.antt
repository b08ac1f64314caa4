use Rattle.rowan.specs.Pointer.{is_meant}
use Rattle.rowan.proofs.ChainLemmas.{follows, chain-one}
use Rattle.rowan.proofs.PointerLemmas.{visited-depth}
use Rattle.rowan.proofs.laws.one_chain_begins_at_each_element.Goals as goal

pub returns-clause-some : goal.returns-clause-some
returns-clause-some c = follows

pub returns-clause-one : goal.returns-clause-one
returns-clause-one c = chain-one

pub returns-clause-visits : goal.returns-clause-visits
returns-clause-visits c means root span chain d = visited-depth (is_meant means span root) root span
    chain d
