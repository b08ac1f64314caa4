use Rattle.std.proofs.Common.{◌≤◌, ◌+◌, ◌*◌}
use Rattle.rowan_green.specs.Sizes.{children_size, kept_size}
use Rattle.rowan_green.proofs.green.node.block.ChildBlock.+drop.Given as goal

abbrev pub decreases-wait_for : goal.decreases-wait_for
decreases-wait_for l = 2 * children_size l.inner.block.list.items + 2

abbrev pub decreases-drop_into : goal.decreases-drop_into
decreases-drop_into l = 2 * children_size l.self.block.list.items

abbrev pub decreases-drop : goal.decreases-drop
decreases-drop l = 2 * children_size l.self.block.list.items + 1

abbrev pub invariant-drop-loop-block : goal.invariant-drop-loop-block
invariant-drop-loop-block l = kept_size l.rest.items ≤ children_size l.fn.self.block.list.items

abbrev pub decreases-drop-loop-block : goal.decreases-drop-loop-block
decreases-drop-loop-block l = kept_size l.rest.items

abbrev pub invariant-drop_into-loop-child : goal.invariant-drop_into-loop-child
invariant-drop_into-loop-child l = record {
  within : children_size l.block.block.list.items ≤ children_size l.fn.self.block.list.items;
  smaller : kept_size l.rest.items + children_size l.block.block.list.items
      ≤ kept_size l.fn.rest.items + children_size l.fn.self.block.list.items;
}

abbrev pub decreases-drop_into-loop-child : goal.decreases-drop_into-loop-child
decreases-drop_into-loop-child l = kept_size l.rest.items + children_size l.block.block.list.items
