use Rattle.std.proofs.Common.{◌≡◌}
use Rattle.std.specs.List.{find}
use Rattle.rowan_table.specs.Moves.{children}
use Rattle.rowan_api.specs.Refs.{node_place, rest_of_nodes}
use Rattle.rowan.specs.Ast.{casts_at}
use Rattle.rowan.proofs.ast.support.child_of.Given as goal

abbrev pub invariant-loop-node : goal.invariant-loop-node
invariant-loop-node g l =
    let casts = casts_at g.N.Language.Language.meaning g.N.AstNode.casts in
    (goal.iterator-loop-node g).can_next l.nodes
    × (goal.iterator-loop-node g).is_finite l.nodes
    × (find casts (rest_of_nodes l.nodes) ≡ find casts (children (node_place l.fn.parent)))
