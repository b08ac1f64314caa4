use Rattle.rowan_builder.proofs.StreamLemmas.{BuildsOn-adds}
use Rattle.rowan_builder.proofs.TextLemmas.{text-adds}
use Rattle.rowan_builder.proofs.builder.GreenNodeBuilder+H.token.Goals as goal

pub returns-clause-stream : goal.returns-clause-stream
returns-clause-stream g c =
    BuildsOn-adds _ _ c.token.result _ c.token.ensures.ok c.token.ensures.unchanged

pub returns-clause-text : goal.returns-clause-text
returns-clause-text g c =
    text-adds _ _ c.token.result _ c.token.ensures.ok c.token.ensures.unchanged
