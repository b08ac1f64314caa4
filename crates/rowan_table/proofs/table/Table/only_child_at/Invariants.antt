use Rattle.std.proofs.Common.{◌≡◌, ◌-◌, length}
use Rattle.rowan_green.specs.declared.utility_types.NodeOrToken.TheVariants.{Node}
use Rattle.rowan_terms.specs.Path.{subterm, offset}
use Rattle.rowan_green.proofs.SearchLemmas.{IsNarrowed, IsCounted}
use Rattle.rowan_table.specs.Moves.{children_of}
use Rattle.rowan_table.specs.TableView.{root_of, path_at}
use Rattle.rowan_table.proofs.table.Table.only_child_at.Given as goal

-- the search among the node's children, with the range counted from the node's start
abbrev pub invariant-loop-low : goal.invariant-loop-low
invariant-loop-low l =
    let root = Node (root_of l.self) in
    let p = path_at l.self l.fn.parent.number in
    let ts = children_of (subterm root p) in
    IsNarrowed ts (l.range.start - offset root p) (l.range.end - offset root p) l.low l.high
    × IsCounted (length ts) (l.high - l.low) l.initial.steps.comparisons l.steps.comparisons
    × (l.steps.visits ≡ l.initial.steps.visits)

abbrev pub decreases-loop-low : goal.decreases-loop-low
decreases-loop-low l = l.high - l.low
