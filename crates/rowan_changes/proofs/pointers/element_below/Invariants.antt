use Rattle.std.proofs.Common.{◌≡◌, take, Some}
use Rattle.rowan_table.specs.Moves.{element_below}
use Rattle.rowan_api.specs.Refs.{node_place, element_place}
use Rattle.rowan_changes.proofs.pointers.element_below.Given as goal

abbrev pub invariant-loop-place : goal.invariant-loop-place
invariant-loop-place g l =
    element_below (node_place l.node) (take l.place-index l.path) ≡ Some (element_place l.element)
