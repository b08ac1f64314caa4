use Rattle.std.proofs.Common.{◌≡◌, ◌-◌, ◌≤◌}
use Rattle.rowan.specs.Term.{node_children}
use Rattle.toml_edit_plan.specs.Counts.{count_of, part}
use Rattle.toml_edit_plan.proofs.counts.count_of.Given as goal

abbrev pub invariant-loop-index : goal.invariant-loop-index
invariant-loop-index l =
    (l.fn.start ≤ l.index)
    × (l.index - l.fn.start ≤ l.fn.end - l.fn.start)
    × (l.count ≤ l.index - l.fn.start)
    × (l.count ≡ count_of l.sort (part l.fn.start (l.index - l.fn.start) (node_children l.list)))
