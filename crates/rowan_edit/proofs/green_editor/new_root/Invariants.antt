use Rattle.std.proofs.Common.{◌≡◌, length}
use Rattle.rowan_changes.specs.GreenEditor.{edits_of}
use Rattle.rowan_changes.specs.Zipper.{IsStanding}
use Rattle.rowan_edit.proofs.PlanLemmas.{AreLeft}
use Rattle.rowan_edit.proofs.green_editor.new_root.Given as goal

abbrev pub invariant-loop-edit : goal.invariant-loop-edit
invariant-loop-edit l =
    (l.zipper.root.now ≡ l.fn.root)
    × IsStanding l.zipper
    × AreLeft l.fn.root (edits_of l.left.items) (edits_of l.fn.edits.items) l.zipper

abbrev pub decreases-loop-edit : goal.decreases-loop-edit
decreases-loop-edit l = length l.left.items
