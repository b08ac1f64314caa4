use Rattle.std.proofs.Common.{◌≡◌, ◌≤◌, length, take}
use Rattle.rowan_changes.specs.Zipper.{path_of}
use Rattle.rowan_changes.proofs.zipper.Zipper.shared.Given as goal

abbrev pub invariant-loop-count : goal.invariant-loop-count
invariant-loop-count l =
    (l.count ≤ length l.self.above.items) × (take l.count (path_of l.self) ≡ take l.count l.path)
