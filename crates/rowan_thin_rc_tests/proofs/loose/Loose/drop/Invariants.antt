use Rattle.std.specs.Vec.{vec_len}
use Rattle.rowan_thin_rc.specs.Shape.{IsOpen}
use Rattle.rowan_thin_rc_tests.proofs.loose.Loose.drop.Given as goal

abbrev pub invariant-loop-block : goal.invariant-loop-block
invariant-loop-block l = IsOpen 2 2 l.block

abbrev pub decreases-loop-block : goal.decreases-loop-block
decreases-loop-block l = vec_len l.block.list
