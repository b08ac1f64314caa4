use Rattle.std.proofs.Common.{◌≡◌, ◌++◌, take}
use Rattle.rowan_green.specs.Term.{node_children}
use Rattle.rowan_green.proofs.green.node.GreenNode.splice_children.Given as goal

abbrev pub invariant-loop-element : goal.invariant-loop-element
invariant-loop-element g l = l.draft ≡ take l.range.start (node_children l.self) ++ l.yielded
