use Rattle.rowan_parser.proofs.Leaves.{tree-text, tree-tokens}
use Rattle.rowan_parser.proofs.laws.leaves_have_the_text.Goals as goal

pub returns : goal.returns
returns c = record { text = tree-text; leaves = tree-tokens }
