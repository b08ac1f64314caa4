use Rattle.std.proofs.Common.{◌≤◌}
use Rattle.std.specs.Vec.{vec_len}
use Rattle.rowan_green.specs.Sizes.{children_size}
use Rattle.rowan_green.proofs.green.node.block.ChildBlock.drop_tokens.Given as goal

abbrev pub invariant-loop-child : goal.invariant-loop-child
invariant-loop-child l =
    children_size l.block.block.list.items ≤ children_size l.fn.self.block.list.items

abbrev pub decreases-loop-child : goal.decreases-loop-child
decreases-loop-child l = vec_len l.block.block.list
