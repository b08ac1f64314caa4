use Rattle.std.proofs.Common.{length}
use Rattle.rowan_changes.specs.GreenEditor.{edits_of}
use Rattle.rowan_edit.proofs.ArrangedPlanLemmas.{IsHalfway}
use Rattle.rowan_edit.proofs.plain_edits.plain_edits.Given as goal

abbrev pub invariant-loop-path : goal.invariant-loop-path
invariant-loop-path l =
    IsHalfway l.root (edits_of l.fn.edits.items) l.fn.arrangements.entries l.left.entries l.halves

abbrev pub decreases-loop-path : goal.decreases-loop-path
decreases-loop-path l = length l.left.entries
