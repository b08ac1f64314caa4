use Rattle.std.proofs.Common.{◌≡◌, length}
use Rattle.rowan_api.specs.Refs.{rest_of_kind}
use Rattle.rowan_api.proofs.api.nodes_by_kind_ref.NodesByKindRefIterator.next.Given as goal

abbrev pub invariant-loop-node : goal.invariant-loop-node
invariant-loop-node g l =
    let rest = rest_of_kind g.I.NodesRef.rest g.L.Language.meaning g.L.Kind.PartialEq.eq in
    (l.self.kind ≡ l.initial.self.kind) × (rest l.self ≡ rest l.initial.self)

abbrev pub decreases-loop-node : goal.decreases-loop-node
decreases-loop-node g l = length (g.I.NodesRef.rest l.self.nodes.raw)
