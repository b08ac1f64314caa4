use Rattle.rowan_parser.proofs.ShapeLemmas.{closed_alone, node_ends}
use Rattle.rowan_parser.proofs.laws.a_completed_marker_is_a_node.Goals as goal

pub returns : goal.returns
returns c = record { events = closed_alone; node = node_ends }
