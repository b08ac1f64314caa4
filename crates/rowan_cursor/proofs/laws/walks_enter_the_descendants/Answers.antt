use Rattle.rowan_cursor.proofs.PreorderLaws.{enters-descendants_with_tokens, enters-descendants}
use Rattle.rowan_cursor.proofs.laws.walks_enter_the_descendants.Goals as goal

pub returns-clause-with_tokens : goal.returns-clause-with_tokens
returns-clause-with_tokens c = λ cursor. enters-descendants_with_tokens cursor

pub returns-clause-nodes : goal.returns-clause-nodes
returns-clause-nodes c = λ cursor. enters-descendants cursor
