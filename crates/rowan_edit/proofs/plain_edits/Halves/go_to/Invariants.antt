use Rattle.std.proofs.Common.{length}
use Rattle.rowan_edit.proofs.HalvesLemmas.{IsGoing}
use Rattle.rowan_edit.proofs.plain_edits.Halves.go_to.Given as goal

abbrev pub invariant-loop-last : goal.invariant-loop-last
invariant-loop-last l = IsGoing l.path l.fn.self l.front.items l.behind.items

abbrev pub decreases-loop-last : goal.decreases-loop-last
decreases-loop-last l = length l.front.items
