use Rattle.rowan_changes.proofs.Ways.{IsOnWay}
use Rattle.rowan_changes.proofs.zipper.Zipper.go_to.Given as goal

abbrev pub invariant-loop-depth : goal.invariant-loop-depth
invariant-loop-depth l = IsOnWay l.fn.self l.zipper l.path l.end l.depth
