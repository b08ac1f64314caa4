use Rattle.rowan_edit_laws.proofs.KeptTokens.{formatted-calls}
use Rattle.rowan_edit_laws.proofs.laws.formatters_keep_trivia_outside.Goals as goal

pub returns : goal.returns
returns g c = formatted-calls g.F.FnMut
