use Rattle.std.proofs.Common.{◌-◌}
use Rattle.rowan_table.specs.Moves.{numbers, following}
use Rattle.rowan_table.specs.TableView.{root_of, path_at}
use Rattle.rowan_cursor.specs.Walks.{row_numbers}
use Rattle.rowan_cursor.proofs.RowViews.{nodes-left}
use Rattle.rowan_cursor.proofs.cursor.row.Row.following.Goals as goal

pub returns-clause-nodes : goal.returns-clause-nodes
returns-clause-nodes c =
    let t = c.args.table.now in
    let row = c.following_numbers.result in
    nodes-left t (row_numbers c.new.result) (numbers row.start (row.end - row.start))
    (following (root_of t) (path_at t c.args.number)) c.following_numbers.ensures.row.row
    c.new.ensures.numbers
