use Rattle.std.proofs.Common.{◌≡◌, length, take}
use Rattle.rowan_tree_cursor.proofs.tree_cursor.TreeCursor.climb_to.Given as goal

abbrev pub invariant-loop-self : goal.invariant-loop-self
invariant-loop-self l =
    (l.self.root ≡ l.fn.self.root)
    × (take l.depth l.self.path ≡ take l.depth l.fn.self.path)

abbrev pub decreases-loop-self : goal.decreases-loop-self
decreases-loop-self l = length l.self.path
