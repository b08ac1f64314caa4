use Rattle.std.proofs.Common.{arith}
use Rattle.rowan_cursor.proofs.CountLemmas.{row_nodes-short}
use Rattle.rowan_cursor.proofs.cursor.node_children_ref.SyntaxNodeChildrenRef.new.Goals as goal

pub returns-clause-count : goal.returns-clause-count
returns-clause-count c = omega (arith, row_nodes-short c.args.table.now.value c.args.row)
