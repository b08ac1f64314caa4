use Rattle.rowan.proofs.TraceLaws.{turns-make}
use Rattle.rowan.proofs.laws.trace_makes_its_replacements.Goals as goal

pub returns : goal.returns
returns c = λ e steps reports trace. turns-make steps reports e trace.in_turn
