use Rattle.std.proofs.Common.{arith}
use Rattle.rowan_green.proofs.Drops.{children_size-last}
use Rattle.rowan_green.proofs.green.node.block.ChildBlock.drop_tokens.Goals as goal

pub loop-child-preserved : goal.loop-child-preserved
loop-child-preserved c =
    omega (
      arith,
      c.loop-child.invariant,
      children_size-last c.pop.new.self.block.list.items c.loop-child.block.block.list.items
          c.in-Some.child c.in-Some.ensures.some,
    )
