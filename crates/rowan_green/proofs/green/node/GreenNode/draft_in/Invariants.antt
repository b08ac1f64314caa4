use Rattle.std.proofs.Common.{◌≡◌, take}
use Rattle.rowan_green.proofs.green.node.GreenNode.draft_in.Given as goal

abbrev pub invariant-loop-child : goal.invariant-loop-child
invariant-loop-child l = l.children.block.list.items ≡ take l.child-index l.shared
