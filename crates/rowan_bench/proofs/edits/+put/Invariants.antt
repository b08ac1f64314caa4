use Rattle.std.proofs.Common.{length}
use Rattle.rowan_bench.proofs.edits.+put.Given as goal

abbrev pub decreases-put : goal.decreases-put
decreases-put l = length l.path.now
