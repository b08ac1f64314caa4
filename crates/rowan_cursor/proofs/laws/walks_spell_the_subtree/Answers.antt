use Rattle.rowan_cursor.proofs.WordLaws.{walk-spells}
use Rattle.rowan_cursor.proofs.laws.walks_spell_the_subtree.Goals as goal

pub returns : goal.returns
returns c = λ cursor t there. walk-spells cursor t there
