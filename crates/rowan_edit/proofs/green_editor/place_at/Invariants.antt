use Rattle.rowan_changes.proofs.Ways.{LeadsSoFar}
use Rattle.rowan_edit.proofs.green_editor.place_at.Given as goal

abbrev pub invariant-loop-index : goal.invariant-loop-index
invariant-loop-index l = LeadsSoFar l.fn.root l.path l.index-index l.node l.start
