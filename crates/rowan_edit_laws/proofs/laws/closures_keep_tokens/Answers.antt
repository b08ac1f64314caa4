use Rattle.rowan_edit_laws.proofs.KeptTokens.{kept-calls}
use Rattle.rowan_edit_laws.proofs.laws.closures_keep_tokens.Goals as goal

pub returns : goal.returns
returns g c = kept-calls g.F.FnMut
