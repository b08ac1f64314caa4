use Rattle.std.proofs.Common.{◌≡◌, ◌++◌, length}
use Rattle.std.specs.Prelude.{reverse}
use Rattle.rowan_api.specs.Refs.{node_place}
use Rattle.rowan_changes.proofs.pointers.path_to.Given as goal

-- the way that is still to go, and what is read of it so far
abbrev pub invariant-loop-parent : goal.invariant-loop-parent
invariant-loop-parent g l =
    (node_place l.at).path ++ reverse l.path.items ≡ (node_place l.fn.node).path

abbrev pub decreases-loop-parent : goal.decreases-loop-parent
decreases-loop-parent g l = length (node_place l.at).path
