use Rattle.std.proofs.Common.{◌-◌}
use Rattle.rowan_table.specs.Moves.{numbers, child_paths}
use Rattle.rowan_table.specs.TableView.{root_of, path_at}
use Rattle.rowan_cursor.specs.Walks.{row_numbers}
use Rattle.rowan_cursor.proofs.RowViews.{elements-left, nodes-left}
use Rattle.rowan_cursor.proofs.cursor.row.Row.children.Goals as goal

pub returns-clause-elements : goal.returns-clause-elements
returns-clause-elements c =
    let t = c.args.table.now in
    let row = c.child_numbers.result in
    elements-left t (row_numbers c.new.result) (numbers row.start (row.end - row.start))
    (child_paths (root_of t) (path_at t c.args.number)) c.child_numbers.ensures.row.row
    c.new.ensures.numbers

pub returns-clause-nodes : goal.returns-clause-nodes
returns-clause-nodes c =
    let t = c.args.table.now in
    let row = c.child_numbers.result in
    nodes-left t (row_numbers c.new.result) (numbers row.start (row.end - row.start))
    (child_paths (root_of t) (path_at t c.args.number)) c.child_numbers.ensures.row.row
    c.new.ensures.numbers
