use Rattle.std.proofs.Common.{take}
use Rattle.rowan_changes.specs.GreenEditor.{ArePairs}
use Rattle.rowan_changes.proofs.edit.changes_of.Given as goal

abbrev pub invariant-loop-edit : goal.invariant-loop-edit
invariant-loop-edit l = ArePairs (take l.edit-index l.edits) l.changes.items
