use Rattle.std.proofs.Common.{Ok}
use Rattle.rowan_green.specs.declared.fault.Fault.{Fault}
use Rattle.rowan_builder.proofs.StreamLemmas.{BuildsOn-opens, BuildsOn-same}
use Rattle.rowan_builder.proofs.TextLemmas.{text-opens, same_text}
use Rattle.rowan_builder.proofs.builder.GreenNodeBuilder+H.start_node.Goals as goal

pub returns-clause-stream : goal.returns-clause-stream
returns-clause-stream g c =
    BuildsOn-opens {E = Fault} _ _ (Ok tt) _ c.in_ok-start_node.ensures.ok tt

pub returns-clause-text : goal.returns-clause-text
returns-clause-text g c = text-opens {E = Fault} _ _ (Ok tt) _ c.in_ok-start_node.ensures.ok tt

pub returns-in_err-start_node-clause-stream : goal.returns-in_err-start_node-clause-stream
returns-in_err-start_node-clause-stream g c =
    BuildsOn-same _ _ c.in_err-start_node.ensures.unchanged

pub returns-in_err-start_node-clause-text : goal.returns-in_err-start_node-clause-text
returns-in_err-start_node-clause-text g c = same_text _ _ c.in_err-start_node.ensures.unchanged
