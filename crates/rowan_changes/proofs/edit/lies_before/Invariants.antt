use Rattle.std.proofs.Common.{◌≡◌, ◌≤◌, [], ◌∷◌, ◌++◌, length, drop}
use Rattle.rowan_changes.specs.Edit.{lies_before}
use Rattle.rowan_changes.proofs.edit.lies_before.Given as goal

-- the two paths are the same so far
abbrev pub invariant-loop-depth : goal.invariant-loop-depth
invariant-loop-depth l =
    let place = l.other ++ l.start ∷ [] in
    (l.depth ≤ length l.other)
    × (lies_before l.parent l.end place
    ≡ lies_before (drop l.depth l.parent) l.end (drop l.depth place))
