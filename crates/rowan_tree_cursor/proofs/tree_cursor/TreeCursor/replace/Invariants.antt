use Rattle.std.proofs.Common.{◌≡◌, ◌≤◌, [], length, take}
use Rattle.rowan_green.specs.declared.utility_types.NodeOrToken.TheVariants.{Node, Token}
use Rattle.rowan_green.specs.Fits.{Fits}
use Rattle.rowan_terms.specs.Path.{put}
use Rattle.rowan_green.specs.Term.{TokenTerm}
use Rattle.rowan_tree_cursor.specs.TreeCursor.{path_of, AreFrames}
use Rattle.rowan_tree_cursor.proofs.tree_cursor.TreeCursor.replace.Given as goal

-- the new element, below the frames that are left, makes the same tree as the replacement below all
-- of them; a token is the replacement itself
abbrev pub invariant-loop-depth : goal.invariant-loop-depth
invariant-loop-depth l =
    let root = Node l.self-inside.root.now in
    let all = l.self-inside.above.items in
    (l.depth ≤ length all)
    × AreFrames l.self-inside.root.now [] (take l.depth all)
    × (put root (path_of (take l.depth all)) l.element ≡ put root (path_of all) l.fn.replacement)
    × Fits l.element
    × ((t : TokenTerm) → l.element ≡ Token t
    → (l.depth ≡ length all) × (l.element ≡ l.fn.replacement))

abbrev pub decreases-loop-depth : goal.decreases-loop-depth
decreases-loop-depth l = l.depth
