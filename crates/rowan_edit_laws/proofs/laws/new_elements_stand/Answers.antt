use Rattle.rowan_changes.proofs.PlacedLaw.{new-stand}
use Rattle.rowan_edit_laws.proofs.laws.new_elements_stand.Goals as goal

pub returns : goal.returns
returns c = new-stand
