use Rattle.rowan_parser.proofs.Growing.{spelled-part, after-seen}
use Rattle.rowan_parser.proofs.laws.a_part_is_over_its_tokens.Goals as goal

pub returns : goal.returns
returns c = record { placed = spelled-part; tokens = after-seen }
