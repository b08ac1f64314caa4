use Rattle.std.proofs.Common.{None, subst}
use Rattle.rowan_table.specs.Cursor.{Cursor}
use Rattle.rowan_table.specs.Search.{FindsChild}
use Rattle.rowan_cursor.proofs.cursor.node.SyntaxNode.child_or_token_at_range_counted.Goals as goal

pub returns-in-None-clause-ok : goal.returns-in-None-clause-ok
returns-in-None-clause-ok c =
    subst (λ (x : Cursor). FindsChild c.args.range x None) c.as_ref.ensures
    (rw c.in-None.is at c.child_or_token_at_range_counted.ensures.found)
