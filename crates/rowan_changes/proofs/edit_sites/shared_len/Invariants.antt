use Rattle.std.proofs.Common.{◌≡◌, ◌≤◌, length, take}
use Rattle.rowan_changes.proofs.edit_sites.shared_len.Given as goal

abbrev pub invariant-loop-depth : goal.invariant-loop-depth
invariant-loop-depth l = (l.depth ≤ length l.other) × (take l.depth l.path ≡ take l.depth l.other)
