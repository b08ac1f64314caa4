use Rattle.std.proofs.Common.{◌≡◌, ◌≤◌, length, false}
use Rattle.std.specs.Prelude.{filter}
use Rattle.rowan_api.specs.Refs.{rest_of_nodes}
use Rattle.rowan.specs.Ast.{casts_at, rest_of_children}
use Rattle.rowan.proofs.ast.children_ref.AstChildrenRefIterator.next.Given as goal

abbrev pub invariant-loop-node : goal.invariant-loop-node
invariant-loop-node g l =
    let casts = casts_at g.N.Language.Language.meaning g.N.AstNode.casts in
    (l.self.was_refused ≡ false)
    × (filter casts (rest_of_children l.initial.self) ≡ filter casts (rest_of_nodes l.self.nodes))
    × (length (rest_of_nodes l.self.nodes) ≤ length (rest_of_children l.initial.self))

abbrev pub decreases-loop-node : goal.decreases-loop-node
decreases-loop-node g l = length (rest_of_nodes l.self.nodes)
