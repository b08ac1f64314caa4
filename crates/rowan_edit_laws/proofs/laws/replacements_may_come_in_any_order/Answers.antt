use Rattle.rowan_edit_laws.proofs.OrderLaw.{in-any-order}
use Rattle.rowan_edit_laws.proofs.laws.replacements_may_come_in_any_order.Goals as goal

pub returns : goal.returns
returns c = in-any-order
