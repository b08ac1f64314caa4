use Rattle.std.proofs.Common.{sym}
use Rattle.rowan_edit_laws.proofs.ArrangedLaw.{arrangements-made}
use Rattle.rowan_edit_laws.proofs.laws.arrangements_are_edits.Goals as goal

pub returns : goal.returns
returns c = λ plan h. sym (arrangements-made plan h)
