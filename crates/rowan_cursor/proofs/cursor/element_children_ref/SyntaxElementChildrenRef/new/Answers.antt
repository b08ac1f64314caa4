use Rattle.std.proofs.Common.{arith}
use Rattle.rowan_cursor.proofs.CountLemmas.{row_elements-short}
use Rattle.rowan_cursor.proofs.cursor.element_children_ref.SyntaxElementChildrenRef.new.Goals as goal

pub returns-clause-count : goal.returns-clause-count
returns-clause-count c = omega (arith, row_elements-short c.args.table.now.value c.args.row)
