use Rattle.std.proofs.Common.{◌≡◌, take, Some}
use Rattle.rowan_table.specs.Moves.{element_below}
use Rattle.rowan_script.proofs.script.places.element_at.Given as goal

abbrev pub invariant-loop-place : goal.invariant-loop-place
invariant-loop-place l = element_below l.node (take l.place-index l.path) ≡ Some l.element
