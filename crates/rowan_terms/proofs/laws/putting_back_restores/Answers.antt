use Rattle.std.proofs.Common.{refl}
use Rattle.rowan_terms.proofs.PutLemmas.{put-back, put-itself, put-again, put-absent}
use Rattle.rowan_terms.proofs.laws.putting_back_restores.Goals as goal

pub returns-clause-back : goal.returns-clause-back
returns-clause-back c = put-back

pub returns-clause-itself : goal.returns-clause-itself
returns-clause-itself c = put-itself

pub returns-clause-again : goal.returns-clause-again
returns-clause-again c = put-again

pub returns-clause-absent : goal.returns-clause-absent
returns-clause-absent c = put-absent

pub returns-clause-whole : goal.returns-clause-whole
returns-clause-whole c = λ t u. refl
