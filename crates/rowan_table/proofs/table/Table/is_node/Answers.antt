use Rattle.std.proofs.Common.{◌∙◌}
use Rattle.rowan_table.proofs.InnerLemmas.{is_some-stands}
use Rattle.rowan_table.proofs.table.Table.is_node.Goals as goal

pub returns : goal.returns
returns c =
    c.is_some.ensures ∙ is_some-stands c.args.self.now c.args.number c.node_number.result
    c.node_number.ensures.some c.node_number.ensures.none
