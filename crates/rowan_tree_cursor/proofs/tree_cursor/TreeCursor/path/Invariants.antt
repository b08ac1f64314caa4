use Rattle.std.proofs.Common.{◌≡◌, take, map}
use Rattle.rowan_tree_cursor.proofs.tree_cursor.TreeCursor.path.Given as goal

abbrev pub invariant-loop-frame : goal.invariant-loop-frame
invariant-loop-frame l = l.path.items ≡ map (λ f. f.index) (take l.frame-index l.frame-items)
