use Rattle.rowan_api.specs.Kinds.{has_kind}
use Rattle.rowan_api.specs.Refs.{node_place, rest_of_kind}
use Rattle.rowan_api.proofs.RefLemmas.{first-picked}
use Rattle.rowan_api.proofs.api.nodes_ref.TypedNodesRef.first_by_kind.Goals as goal

pub returns : goal.returns
returns g c =
    let holds = has_kind g.L.Language.meaning g.L.Kind.PartialEq.eq c.args.kind in
    let rest = rest_of_kind g.I.NodesRef.rest g.L.Language.meaning g.L.Kind.PartialEq.eq in
    first-picked node_place holds (g.I.NodesRef.rest c.args.self.raw) (rest c.by_kind.result)
    (rest c.next.new.self) c.next.result c.by_kind.ensures.list c.next.ensures.steps
