use Rattle.rowan_builder.proofs.StreamLemmas.{BuildsOn-finishes}
use Rattle.rowan_builder.proofs.TextLemmas.{text-finishes}
use Rattle.rowan_builder.proofs.builder.GreenNodeBuilder+H.finish_node.Goals as goal

pub returns-clause-stream : goal.returns-clause-stream
returns-clause-stream g c =
    BuildsOn-finishes _ _ c.finish_node.result c.finish_node.ensures.ok
    c.finish_node.ensures.unchanged

pub returns-clause-text : goal.returns-clause-text
returns-clause-text g c =
    text-finishes _ _ c.finish_node.result c.finish_node.ensures.ok c.finish_node.ensures.unchanged
