use Rattle.rowan_terms.proofs.PutLemmas.{subterm-put_below, subterm-put_above, subterm-put_ancestor}
use Rattle.rowan_terms.proofs.PutLemmas.{put-join}
use Rattle.rowan_terms.proofs.laws.replacement_is_seen_above_and_below.Goals as goal

pub returns-clause-below : goal.returns-clause-below
returns-clause-below c = subterm-put_below

pub returns-clause-above : goal.returns-clause-above
returns-clause-above c = subterm-put_above

pub returns-clause-ancestor : goal.returns-clause-ancestor
returns-clause-ancestor c = subterm-put_ancestor

pub returns-clause-join : goal.returns-clause-join
returns-clause-join c = put-join
