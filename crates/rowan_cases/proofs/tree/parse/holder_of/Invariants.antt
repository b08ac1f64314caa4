use Rattle.std.proofs.Common.{length}
use Rattle.rowan_cases.proofs.tree.parse.holder_of.Given as goal

abbrev pub decreases-loop-rest : goal.decreases-loop-rest
decreases-loop-rest l = length l.rest
