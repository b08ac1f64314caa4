use Rattle.std.proofs.Common.{length, ap, arith}
use Rattle.rowan_cursor.proofs.CountLemmas.{filter-short}
use Rattle.rowan_api.specs.Kinds.{has_kind}
use Rattle.rowan_api.proofs.api.nodes_ref.TypedNodesRef.by_kind.Goals as goal

pub returns-clause-count : goal.returns-clause-count
returns-clause-count g c =
    let holds = has_kind g.L.Language.meaning g.L.Kind.PartialEq.eq c.args.kind in
    omega (arith, ap length c.new.ensures, filter-short holds (g.I.NodesRef.rest c.args.self.raw))
