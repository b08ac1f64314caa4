use Rattle.rowan_edit.proofs.KeptLemmas.{elements-kept}
use Rattle.rowan_edit_laws.proofs.laws.untouched_elements_stay.Goals as goal

pub returns : goal.returns
returns c = elements-kept
