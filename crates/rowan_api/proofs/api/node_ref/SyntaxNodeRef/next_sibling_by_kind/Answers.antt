use Rattle.std.proofs.Common.{◌∙◌, ap}
use Rattle.std.specs.List.{find}
use Rattle.rowan_cursor.specs.Kinds.{nodes_behind}
use Rattle.rowan_api.specs.Kinds.{has_kind}
use Rattle.rowan_api.specs.Refs.{node_place, rest_of_nodes}
use Rattle.rowan_api.proofs.RefLemmas.{siblings-behind, second-on}
use Rattle.rowan_api.proofs.api.node_ref.SyntaxNodeRef.next_sibling_by_kind.Goals as goal

pub returns : goal.returns
returns g c =
    let here = node_place c.args.self.now in
    let holds = has_kind g.L.Language.meaning g.L.Kind.PartialEq.eq c.args.kind in
    c.first_by_kind.ensures
    ∙ ap (find holds) (second-on node_place here (nodes_behind here)
    (rest_of_nodes c.siblings-siblings.result) (rest_of_nodes c.next.new.self) c.next.result
    (c.siblings-siblings.ensures.list ∙ siblings-behind here c.args.self.now.raw.stands.is)
    c.next.ensures.steps)
