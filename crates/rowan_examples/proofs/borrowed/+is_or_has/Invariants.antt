use Rattle.rowan.specs.Refs.{node_place, rest_of_nodes}
use Rattle.rowan.specs.Sizes.{size_at, AreSmaller}
use Rattle.rowan_examples.proofs.borrowed.+is_or_has.Given as goal

abbrev pub decreases-is_or_has : goal.decreases-is_or_has
decreases-is_or_has l = size_at (node_place l.node)

abbrev pub invariant-loop-child : goal.invariant-loop-child
invariant-loop-child l =
    (goal.iterator-loop-child).can_next l.child-iterator
    × (goal.iterator-loop-child).is_finite l.child-iterator
    × AreSmaller (size_at (node_place l.fn.node)) (rest_of_nodes l.child-iterator)
