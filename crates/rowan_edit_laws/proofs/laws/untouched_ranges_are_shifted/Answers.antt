use Rattle.rowan_edit.proofs.RangeLaw.{range-moved}
use Rattle.rowan_edit_laws.proofs.laws.untouched_ranges_are_shifted.Goals as goal

pub returns : goal.returns
returns c = range-moved
