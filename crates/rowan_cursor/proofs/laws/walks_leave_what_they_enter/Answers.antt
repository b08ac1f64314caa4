use Rattle.rowan_cursor.proofs.PreorderLaws.{preorder_with_tokens-leaves, preorder-leaves}
use Rattle.rowan_cursor.proofs.laws.walks_leave_what_they_enter.Goals as goal

pub returns-clause-with_tokens : goal.returns-clause-with_tokens
returns-clause-with_tokens c = λ cursor calls. preorder_with_tokens-leaves cursor calls

pub returns-clause-nodes : goal.returns-clause-nodes
returns-clause-nodes c = λ cursor calls. preorder-leaves cursor calls
