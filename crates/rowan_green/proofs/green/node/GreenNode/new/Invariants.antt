use Rattle.std.proofs.Common.{◌≡◌}
use Rattle.rowan_green.proofs.green.node.GreenNode.new.Given as goal

abbrev pub invariant-loop-element : goal.invariant-loop-element
invariant-loop-element g l = l.draft ≡ l.yielded
