use Rattle.rowan_parser.proofs.ShapeLemmas.{part_none, part_token, part_joined, part_given_up}
use Rattle.rowan_parser.proofs.ShapeLemmas.{part_both, part_node}
use Rattle.rowan_parser.proofs.laws.parts_join.Goals as goal

pub returns : goal.returns
returns c = record {
  nothing = part_none;
  token = part_token;
  joined = part_joined;
  given_up = part_given_up;
  both = part_both;
  node = part_node;
}
