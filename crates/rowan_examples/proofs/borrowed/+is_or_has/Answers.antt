use Rattle.rowan.specs.Refs.{node_place}
use Rattle.rowan_examples.proofs.borrowed.+is_or_has.Goals as goal

pub loop-child-init : goal.loop-child-init
loop-child-init t c = (
  tt,
  tt,
  rw (
    c.into_iter-child-iterator.ensures.into_iter_gives,
    c.children-child-items.ensures.list,
  )
      (c.children_are_smaller.ensures.nodes (node_place c.args.node)),
)
