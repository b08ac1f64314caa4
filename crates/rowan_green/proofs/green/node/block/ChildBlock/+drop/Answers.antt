use Rattle.std.proofs.Common.{ℕ, ap, arith}
use Rattle.rowan_green.specs.declared.green.node.GreenChild.{GreenChild}
use Rattle.rowan_green.specs.declared.green.node.block.ChildBlock.{ChildBlock}
use Rattle.rowan_green.specs.Sizes.{children_size, term_size}
use Rattle.rowan_green.specs.View.{child_term}
use Rattle.rowan_green.proofs.Drops.{kept-last, children_size-last}
use Rattle.rowan_green.proofs.green.node.block.ChildBlock.+drop.Goals as goal

abbrev block_size : ChildBlock → ℕ
block_size b = children_size b.block.list.items

abbrev child_size : GreenChild → ℕ
child_size c = term_size (child_term c)

pub drop-drop_into-requires-in-Some : goal.drop-drop_into-requires-in-Some
drop-drop_into-requires-in-Some t c = (
  omega (
    arith,
    c.decreases,
    c.loop-block.invariant,
    kept-last c.pop.new.self.items c.loop-block.rest.items c.in-Some.block
        c.in-Some.ensures.items,
    ap block_size c.into_inner.ensures,
  ),
  tt,
)

pub drop-loop-block-smaller : goal.drop-loop-block-smaller
drop-loop-block-smaller t c =
    omega (
      arith,
      c.drop_into-in-Some.ensures,
      kept-last c.pop.new.self.items c.loop-block.rest.items c.in-Some.block
          c.in-Some.ensures.items,
      ap block_size c.into_inner.ensures,
    )

pub drop-loop-block-preserved : goal.drop-loop-block-preserved
drop-loop-block-preserved t c =
    omega (
      arith,
      c.loop-block.invariant,
      c.drop_into-in-Some.ensures,
      kept-last c.pop.new.self.items c.loop-block.rest.items c.in-Some.block
          c.in-Some.ensures.items,
      ap block_size c.into_inner.ensures,
    )

pub drop_into-wait_for-block-requires : goal.drop_into-wait_for-block-requires
drop_into-wait_for-block-requires t c = (
  omega (
    arith,
    c.decreases,
    c.in-Some-release.ensures,
    c.in-Some-drop_tokens.ensures,
    c.loop-child.invariant.within,
    children_size-last c.pop.new.self.block.list.items c.loop-child.block.block.list.items
        c.in-Some.child c.in-Some.ensures.some,
    ap child_size c.in-Node.is,
  ),
  tt,
)

pub drop_into-loop-child-smaller-in-Some-drop_tokens : goal.drop_into-loop-child-smaller-in-Some-drop_tokens
drop_into-loop-child-smaller-in-Some-drop_tokens t c =
    omega (
      arith,
      c.in-Some-release.ensures,
      c.in-Some-drop_tokens.ensures,
      c.wait_for-block.ensures.smaller,
      children_size-last c.pop.new.self.block.list.items c.loop-child.block.block.list.items
          c.in-Some.child c.in-Some.ensures.some,
      ap child_size c.in-Node.is,
    )

pub drop_into-loop-child-preserved-in-Some-drop_tokens : goal.drop_into-loop-child-preserved-in-Some-drop_tokens
drop_into-loop-child-preserved-in-Some-drop_tokens t c =
    record {
      within = omega (
        arith,
        c.in-Some-release.ensures,
        c.in-Some-drop_tokens.ensures,
        c.loop-child.invariant.within,
        c.wait_for-block.ensures.within,
        children_size-last c.pop.new.self.block.list.items c.loop-child.block.block.list.items
            c.in-Some.child c.in-Some.ensures.some,
        ap child_size c.in-Node.is,
      );
      smaller = omega (
        arith,
        c.in-Some-release.ensures,
        c.in-Some-drop_tokens.ensures,
        c.loop-child.invariant.smaller,
        c.wait_for-block.ensures.smaller,
        children_size-last c.pop.new.self.block.list.items c.loop-child.block.block.list.items
            c.in-Some.child c.in-Some.ensures.some,
        ap child_size c.in-Node.is,
      );
    }

pub drop_into-loop-child-smaller-in_default-drop_tokens : goal.drop_into-loop-child-smaller-in_default-drop_tokens
drop_into-loop-child-smaller-in_default-drop_tokens t c =
    omega (
      arith,
      children_size-last c.pop.new.self.block.list.items c.loop-child.block.block.list.items
          c.in-Some.child c.in-Some.ensures.some,
      ap child_size c.in-Node.is,
    )

pub drop_into-loop-child-preserved-in_default-drop_tokens : goal.drop_into-loop-child-preserved-in_default-drop_tokens
drop_into-loop-child-preserved-in_default-drop_tokens t c =
    record {
      within = omega (
        arith,
        c.loop-child.invariant.within,
        children_size-last c.pop.new.self.block.list.items c.loop-child.block.block.list.items
            c.in-Some.child c.in-Some.ensures.some,
        ap child_size c.in-Node.is,
      );
      smaller = omega (
        arith,
        c.loop-child.invariant.smaller,
        children_size-last c.pop.new.self.block.list.items c.loop-child.block.block.list.items
            c.in-Some.child c.in-Some.ensures.some,
        ap child_size c.in-Node.is,
      );
    }

pub drop_into-loop-child-smaller-in_default-release : goal.drop_into-loop-child-smaller-in_default-release
drop_into-loop-child-smaller-in_default-release t c =
    omega (
      arith,
      children_size-last c.pop.new.self.block.list.items c.loop-child.block.block.list.items
          c.in-Some.child c.in-Some.ensures.some,
      ap child_size c.in-Node.is,
    )

pub drop_into-loop-child-preserved-in_default-release : goal.drop_into-loop-child-preserved-in_default-release
drop_into-loop-child-preserved-in_default-release t c =
    record {
      within = omega (
        arith,
        c.loop-child.invariant.within,
        children_size-last c.pop.new.self.block.list.items c.loop-child.block.block.list.items
            c.in-Some.child c.in-Some.ensures.some,
        ap child_size c.in-Node.is,
      );
      smaller = omega (
        arith,
        c.loop-child.invariant.smaller,
        children_size-last c.pop.new.self.block.list.items c.loop-child.block.block.list.items
            c.in-Some.child c.in-Some.ensures.some,
        ap child_size c.in-Node.is,
      );
    }

pub drop_into-loop-child-smaller : goal.drop_into-loop-child-smaller
drop_into-loop-child-smaller t c =
    omega (
      arith,
      children_size-last c.pop.new.self.block.list.items c.loop-child.block.block.list.items
          c.in-Some.child c.in-Some.ensures.some,
      ap child_size c.in-Token.is,
    )

pub drop_into-loop-child-preserved : goal.drop_into-loop-child-preserved
drop_into-loop-child-preserved t c =
    record {
      within = omega (
        arith,
        c.loop-child.invariant.within,
        children_size-last c.pop.new.self.block.list.items c.loop-child.block.block.list.items
            c.in-Some.child c.in-Some.ensures.some,
        ap child_size c.in-Token.is,
      );
      smaller = omega (
        arith,
        c.loop-child.invariant.smaller,
        children_size-last c.pop.new.self.block.list.items c.loop-child.block.block.list.items
            c.in-Some.child c.in-Some.ensures.some,
        ap child_size c.in-Token.is,
      );
    }

pub wait_for-returns-in-Ok-clause-smaller : goal.wait_for-returns-in-Ok-clause-smaller
wait_for-returns-in-Ok-clause-smaller t c =
    omega (
      arith,
      c.in-Some.ensures,
      kept-last c.args.rest.now.items c.push.new.self.items c.new_unchecked-waiting.result
          c.in-Ok.ensures.items,
      ap block_size c.new_unchecked-waiting.ensures,
    )
