use Rattle.std.proofs.Common.{ℕ, List, ap, arith}
use Rattle.std.specs.declared.mem.ManuallyDrop.{ManuallyDrop}
use Rattle.std.specs.Mem.{manually_drop_value}
use Rattle.rowan_thin_rc.proofs.Keeping.{open_in_place}
use Rattle.rowan_thin_rc_tests.specs.View.{kept_size}
use Rattle.rowan_thin_rc_tests.specs.declared.Child.TheVariants.{Node, Leaf}
use Rattle.rowan_thin_rc_tests.proofs.Drops.{kept-last, total-last, some_total, size_is}
use Rattle.rowan_thin_rc_tests.proofs.Node.+drop.Goals as goal

pub drop-drop_into-requires-in-Some : goal.drop-drop_into-requires-in-Some
drop-drop_into-requires-in-Some t c = (
  omega (
    arith,
    c.decreases,
    size_is c.args.self,
    c.loop-node.invariant,
    kept-last c.pop.new.self.items c.loop-node.rest.items c.in-Some.node
        c.in-Some.ensures.items,
    ap (λ v. v.0) c.into_inner.ensures,
  ),
  tt,
)

pub drop-loop-node-smaller : goal.drop-loop-node-smaller
drop-loop-node-smaller t c =
    omega (
      arith,
      c.drop_into-in-Some.ensures,
      kept-last c.pop.new.self.items c.loop-node.rest.items c.in-Some.node
          c.in-Some.ensures.items,
      ap (λ v. v.0) c.into_inner.ensures,
    )

pub drop-loop-node-preserved : goal.drop-loop-node-preserved
drop-loop-node-preserved t c =
    omega (
      arith,
      c.loop-node.invariant,
      c.drop_into-in-Some.ensures,
      kept-last c.pop.new.self.items c.loop-node.rest.items c.in-Some.node
          c.in-Some.ensures.items,
      ap (λ v. v.0) c.into_inner.ensures,
    )

pub drop_into-returns-in_default : goal.drop_into-returns-in_default
drop_into-returns-in_default t c =
    omega (arith, some_total c.self.inside.data.value.tail.items, ap (λ v. v.0) c.self.view_is)

pub drop_into-loop-block-preserved-in-Ok : goal.drop_into-loop-block-preserved-in-Ok
drop_into-loop-block-preserved-in-Ok t c =
    let e = c.take_last.ensures in (
      open_in_place c.loop-block.block c.take_last.new.self c.loop-block.invariant.0 (
        e.capacity,
        e.in_place,
      ),
      omega (
        arith,
        c.loop-block.invariant.1,
        total-last c.take_last.new.self.items c.loop-block.block.list.items
            (Node c.in-Node.node) c.in-Node.ensures.items,
        kept-last c.loop-block.rest.items c.push.new.self.items c.new_unchecked.result
            c.in-Ok.ensures.items,
        ap (λ v. v.0) c.new_unchecked.ensures,
      ),
      omega (
        arith,
        c.loop-block.invariant.2,
        kept-last c.loop-block.rest.items c.push.new.self.items c.new_unchecked.result
            c.in-Ok.ensures.items,
      ),
    )

pub drop_into-drop-requires : goal.drop_into-drop-requires
drop_into-drop-requires t c = (
  omega (
    arith,
    c.decreases,
    size_is c.into_inner.result,
    c.loop-block.invariant.1,
    c.loop-block.invariant.2,
    some_total c.take_last.new.self.items,
    total-last c.take_last.new.self.items c.loop-block.block.list.items
        (Node c.in-Node.node) c.in-Node.ensures.items,
    ap (λ v. v.0) c.new_unchecked.ensures,
    ap (λ (m : ManuallyDrop (ℕ × List ℕ)). (manually_drop_value m).0)
        c.in-Err.ensures.value_returned,
    ap (λ v. v.0) c.into_inner.ensures,
  ),
  tt,
)

pub drop_into-loop-block-preserved-in-Err : goal.drop_into-loop-block-preserved-in-Err
drop_into-loop-block-preserved-in-Err t c =
    let e = c.take_last.ensures in (
      open_in_place c.loop-block.block c.take_last.new.self c.loop-block.invariant.0 (
        e.capacity,
        e.in_place,
      ),
      omega (
        arith,
        c.loop-block.invariant.1,
        total-last c.take_last.new.self.items c.loop-block.block.list.items
            (Node c.in-Node.node) c.in-Node.ensures.items,
        ap kept_size c.in-Err.ensures.items,
      ),
      omega (arith, c.loop-block.invariant.2, ap kept_size c.in-Err.ensures.items),
    )

pub drop_into-loop-block-preserved : goal.drop_into-loop-block-preserved
drop_into-loop-block-preserved t c =
    let e = c.take_last.ensures in (
      open_in_place c.loop-block.block c.take_last.new.self c.loop-block.invariant.0 (
        e.capacity,
        e.in_place,
      ),
      omega (
        arith,
        c.loop-block.invariant.1,
        total-last c.take_last.new.self.items c.loop-block.block.list.items
            (Leaf c.in-Leaf.field-0) c.in-Leaf.ensures.items,
      ),
      c.loop-block.invariant.2,
    )
