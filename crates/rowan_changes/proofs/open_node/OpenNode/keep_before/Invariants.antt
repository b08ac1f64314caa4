use Rattle.std.proofs.Common.{◌≡◌, ◌≤◌, length, take, ◌++◌}
use Rattle.std.specs.Prelude.{reverse}
use Rattle.rowan_green.specs.Term.{node_children}
use Rattle.rowan_changes.proofs.open_node.OpenNode.keep_before.Given as goal

abbrev pub invariant-loop-kept : goal.invariant-loop-kept
invariant-loop-kept l =
    let cs = node_children l.fn.self.node.now in
    (l.fn.index ≤ l.kept)
    × (l.kept ≤ length cs)
    × (take l.kept cs ++ reverse l.done.items
    ≡ take l.fn.self.kept cs ++ reverse l.fn.self.done.items)

abbrev pub decreases-loop-kept : goal.decreases-loop-kept
decreases-loop-kept l = l.kept
