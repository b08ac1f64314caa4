use Rattle.std.proofs.Common.{◌≡◌, ◌-◌, map, length}
use Rattle.rowan_green.specs.View.{child_term}
use Rattle.rowan_green.proofs.SearchLemmas.{IsNarrowed, IsCounted}
use Rattle.rowan_green.proofs.green.node.GreenChild.search.Given as goal

abbrev pub invariant-loop-low : goal.invariant-loop-low
invariant-loop-low l =
    IsNarrowed (map child_term l.children) l.range.start l.range.end l.low l.high
    × IsCounted (length l.children) (l.high - l.low) l.initial.steps.comparisons l.steps.comparisons
    × (l.steps.visits ≡ l.initial.steps.visits)

abbrev pub decreases-loop-low : goal.decreases-loop-low
decreases-loop-low l = l.high - l.low
