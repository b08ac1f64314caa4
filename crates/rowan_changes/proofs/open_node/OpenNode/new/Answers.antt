use Rattle.std.proofs.Common.{◌∙◌, ap}
use Rattle.std.specs.Prelude.{length}
use Rattle.rowan_changes.proofs.OpenNodeLemmas.{whole}
use Rattle.rowan_changes.proofs.open_node.OpenNode.new.Goals as goal

pub returns-clause-closed : goal.returns-clause-closed
returns-clause-closed c =
    whole c.args.node.now c.len.result c.new.result.items
    (c.len.ensures.value ∙ ap length c.children.ensures.list) c.new.ensures.items
