use Rattle.rowan_edit.proofs.RangeLaw.{changes-move}
use Rattle.rowan_edit_laws.proofs.laws.changes_move_untouched_ranges.Goals as goal

pub returns : goal.returns
returns c = changes-move
