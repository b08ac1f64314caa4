use Rattle.rowan_api.proofs.api.node.SyntaxNode.preorder_with_tokens.Goals as goal

pub returns-clause-ok : goal.returns-clause-ok
returns-clause-ok g c = rw (c.new.ensures, ← c.self.view_is) c.preorder_with_tokens.ensures.ok
