use Rattle.std.proofs.Common.{length}
use Rattle.rowan_edit.proofs.HalvesLemmas.{IsParting}
use Rattle.rowan_edit.proofs.plain_edits.Halves.part.Given as goal

abbrev pub invariant-loop-first : goal.invariant-loop-first
invariant-loop-first l = IsParting l.path l.fn.self l.behind.items l.inside.items

abbrev pub decreases-loop-first : goal.decreases-loop-first
decreases-loop-first l = length l.behind.items
