use Rattle.rowan_terms.proofs.PutLemmas.{put-commute}
use Rattle.rowan_terms.proofs.laws.replacements_commute.Goals as goal

pub returns : goal.returns
returns c = put-commute
