use Rattle.rowan_builder.proofs.StreamLemmas.{BuildsOn-wraps}
use Rattle.rowan_builder.proofs.TextLemmas.{text-wraps}
use Rattle.rowan_builder.proofs.builder.GreenNodeBuilder+H.start_node_at.Goals as goal

pub returns-clause-stream : goal.returns-clause-stream
returns-clause-stream g c =
    BuildsOn-wraps _ _ c.start_node_at.result _ _ c.start_node_at.ensures.ok
    c.start_node_at.ensures.unchanged

pub returns-clause-text : goal.returns-clause-text
returns-clause-text g c =
    text-wraps _ _ c.start_node_at.result _ _ c.start_node_at.ensures.ok
    c.start_node_at.ensures.unchanged
