use Rattle.std.proofs.Common.{◌≡◌}
use Rattle.rowan_cursor.specs.Kinds.{first_of_kind, those_of_kind}
use Rattle.rowan_cursor.specs.Refs.{rest_of_nodes}
use Rattle.rowan_cursor.proofs.cursor.node_children_ref.SyntaxNodeChildrenRef.next_by_kind.Given as goal

abbrev pub invariant-loop-node : goal.invariant-loop-node
invariant-loop-node l =
    let k = l.kind.0 in
    ((goal.iterator-loop-node).can_next l.self × (goal.iterator-loop-node).is_finite l.self)
    × (first_of_kind k (rest_of_nodes l.initial.self) ≡ first_of_kind k (rest_of_nodes l.self))
    × (those_of_kind k (rest_of_nodes l.initial.self) ≡ those_of_kind k (rest_of_nodes l.self))
