use Rattle.rowan_edit.proofs.RankedLemmas.{AreMoved}
use Rattle.rowan_edit.proofs.ranked.in_order.Given as goal

abbrev pub invariant-loop-rank : goal.invariant-loop-rank
invariant-loop-rank l = AreMoved l.fn.edits.entries l.rank-iterator l.list.items
