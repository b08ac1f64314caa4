use Rattle.std.proofs.Common.{◌≡◌, length}
use Rattle.std.specs.Prelude.{filter}
use Rattle.rowan_api.specs.Refs.{rest_of_nodes}
use Rattle.rowan.specs.Ast.{casts_at}
use Rattle.rowan.proofs.ast.nodes_ref.AstNodesRefIterator.next.Given as goal

abbrev pub invariant-loop-node : goal.invariant-loop-node
invariant-loop-node g l =
    let casts = casts_at g.N.Language.Language.meaning g.N.AstNodeRef.casts in
    filter casts (rest_of_nodes l.self.nodes) ≡ filter casts (rest_of_nodes l.initial.self.nodes)

abbrev pub decreases-loop-node : goal.decreases-loop-node
decreases-loop-node g l = length (rest_of_nodes l.self.nodes)
