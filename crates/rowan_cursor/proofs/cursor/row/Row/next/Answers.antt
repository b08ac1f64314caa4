use Rattle.std.proofs.Common.{arith}
use Rattle.rowan_cursor.proofs.RowViews.{row-from-back}
use Rattle.rowan_cursor.proofs.cursor.row.Row.next.Goals as goal

pub returns-in-Prev-clause-some : goal.returns-in-Prev-clause-some
returns-in-Prev-clause-some c =
    let row = c.args.self.now in
    row-from-back row.direction row.start row.end c.in-Prev.is (omega arith)
