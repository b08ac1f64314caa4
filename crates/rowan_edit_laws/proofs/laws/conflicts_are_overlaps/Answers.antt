use Rattle.rowan_edit.proofs.OverlapLemmas.{conflict-overlaps}
use Rattle.rowan_edit_laws.proofs.laws.conflicts_are_overlaps.Goals as goal

pub returns : goal.returns
returns c = conflict-overlaps
