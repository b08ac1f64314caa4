use Rattle.std.proofs.Common.{◌≡◌, ◌≤◌, ◌+◌, ◌++◌, ◌∷◌, [], length, take}
use Rattle.rowan_green.specs.declared.utility_types.NodeOrToken.TheVariants.{Node}
use Rattle.rowan_changes.specs.OpenNode.{closed, around_all, path_below}
use Rattle.rowan_changes.specs.Zipper.{tree_of, place_of, Leads}
use Rattle.rowan_changes.proofs.zipper.Zipper.close_to.Given as goal

abbrev pub invariant-loop-above : goal.invariant-loop-above
invariant-loop-above l =
    (l.count ≤ length l.above.items)
    × (around_all l.above.items (Node (closed l.inner)) ≡ tree_of l.fn.self)
    × (path_below l.above.items ++ l.inner.kept ∷ []
    ≡ take (length l.above.items + 1) (place_of l.fn.self))
    × Leads l.fn.self.root.now l.above.items l.inner.node.now

abbrev pub decreases-loop-above : goal.decreases-loop-above
decreases-loop-above l = length l.above.items
