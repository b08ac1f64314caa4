use Rattle.rowan_edit_laws.proofs.SiteLaw.{elements-moved}
use Rattle.rowan_edit_laws.proofs.laws.elements_move_with_their_edits.Goals as goal

pub returns : goal.returns
returns c = elements-moved
