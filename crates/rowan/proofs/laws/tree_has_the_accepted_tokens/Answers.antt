use Rattle.rowan_script.proofs.RunLaws.{tokens-tree}
use Rattle.rowan.proofs.laws.tree_has_the_accepted_tokens.Goals as goal

pub returns : goal.returns
returns c = tokens-tree
