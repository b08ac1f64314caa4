use Rattle.std.proofs.Common.{◌≡◌, ◌++◌, length}
use Rattle.rowan_parser.specs.Building.{raw}
use Rattle.rowan_parser.specs.Shape.{around}
use Rattle.rowan_parser.proofs.tree.find_around.Given as goal

abbrev pub invariant-loop-outer : goal.invariant-loop-outer
invariant-loop-outer l = raw l.kinds.items ++ around l.outer l.rest ≡ around l.fn.outer l.fn.events

abbrev pub decreases-loop-outer : goal.decreases-loop-outer
decreases-loop-outer l = length l.rest
