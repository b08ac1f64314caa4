use Rattle.rowan_edit.proofs.KeptLemmas.{one-put}
use Rattle.rowan_edit_laws.proofs.laws.one_for_one_is_a_replacement.Goals as goal

pub returns : goal.returns
returns c = one-put
