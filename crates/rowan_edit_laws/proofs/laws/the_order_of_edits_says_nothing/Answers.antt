use Rattle.rowan_edit.proofs.KeptLemmas.{either-order}
use Rattle.rowan_edit_laws.proofs.laws.the_order_of_edits_says_nothing.Goals as goal

pub returns : goal.returns
returns c = either-order
