use Rattle.std.proofs.Common.{◌≡◌, ◌++◌, length}
use Rattle.std.specs.Prelude.{reverse}
use Rattle.rowan_edit.specs.ArrangementsKept.{splices_in}
use Rattle.rowan_edit.proofs.plain_edits.Halves.join.Given as goal

abbrev pub invariant-loop-first : goal.invariant-loop-first
invariant-loop-first l = l.front.items ++ reverse l.behind.items ≡ splices_in l.fn.self

abbrev pub decreases-loop-first : goal.decreases-loop-first
decreases-loop-first l = length l.behind.items
