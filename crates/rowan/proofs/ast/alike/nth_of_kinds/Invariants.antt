use Rattle.std.proofs.Common.{◌≡◌}
use Rattle.std.specs.Prelude.{filter, slice_get}
use Rattle.rowan_table.specs.Moves.{children}
use Rattle.rowan_api.specs.Refs.{node_place, rest_of_nodes}
use Rattle.rowan.specs.Ast.{has_one_of}
use Rattle.rowan.proofs.ast.alike.nth_of_kinds.Given as goal

abbrev pub invariant-loop-node : goal.invariant-loop-node
invariant-loop-node g l =
    let alike = has_one_of g.L.Language.meaning g.L.Kind.PartialEq.eq l.fn.kinds in
    (goal.iterator-loop-node g).can_next l.nodes
    × (goal.iterator-loop-node g).is_finite l.nodes
    × (slice_get (filter alike (rest_of_nodes l.nodes)) l.left
    ≡ slice_get (filter alike (children (node_place l.fn.parent))) l.fn.index)
