use Rattle.rowan_rewrite.proofs.RewritingLemmas.{kept-rewritten}
use Rattle.rowan_edit_laws.proofs.laws.kept_tokens_stay.Goals as goal

pub returns : goal.returns
returns c = kept-rewritten
