use Rattle.rowan_rewrite.proofs.RewritingLemmas.{tokens-rewritten}
use Rattle.rowan_edit_laws.proofs.laws.tokens_are_rewritten.Goals as goal

pub returns : goal.returns
returns c = tokens-rewritten
