use Rattle.rowan_parser.proofs.ShapeLemmas.{closed_around, around_ends}
use Rattle.rowan_parser.proofs.laws.precede_puts_one_around.Goals as goal

pub returns : goal.returns
returns c = record { events = closed_around; node = around_ends }
