use Rattle.std.proofs.Common.{◌+◌}
use Rattle.rowan_table.specs.Moves.{sibling_paths}
use Rattle.rowan_table.specs.TableView.{root_of, path_at}
use Rattle.rowan_cursor.specs.Walks.{row_numbers, numbers_between}
use Rattle.rowan_cursor.proofs.RowViews.{elements-left, nodes-left, siblings-next, siblings-prev}
use Rattle.rowan_cursor.proofs.cursor.row.Row.siblings.Goals as goal

pub returns-in-Next-clause-elements : goal.returns-in-Next-clause-elements
returns-in-Next-clause-elements c =
    let t = c.args.table.now in
    let n = c.args.number in
    let d = c.args.direction in
    let row = c.following_numbers.result in
    elements-left t (row_numbers c.new.result) (numbers_between n row.end d)
    (sibling_paths d (root_of t) (path_at t n))
    (siblings-next t n row.start row.end d c.in-Next.is c.following_numbers.ensures.start
    c.following_numbers.ensures.row)
    c.new.ensures.numbers

pub returns-in-Next-clause-nodes : goal.returns-in-Next-clause-nodes
returns-in-Next-clause-nodes c =
    let t = c.args.table.now in
    let n = c.args.number in
    let d = c.args.direction in
    let row = c.following_numbers.result in
    nodes-left t (row_numbers c.new.result) (numbers_between n row.end d)
    (sibling_paths d (root_of t) (path_at t n))
    (siblings-next t n row.start row.end d c.in-Next.is c.following_numbers.ensures.start
    c.following_numbers.ensures.row)
    c.new.ensures.numbers

pub returns-in-Prev-clause-elements : goal.returns-in-Prev-clause-elements
returns-in-Prev-clause-elements c =
    let t = c.args.table.now in
    let n = c.args.number in
    let d = c.args.direction in
    let row = c.preceding_numbers.result in
    elements-left t (row_numbers c.new-in-Prev.result) (numbers_between row.start (n + 1) d)
    (sibling_paths d (root_of t) (path_at t n))
    (siblings-prev t n row.start row.end d c.in-Prev.is c.preceding_numbers.ensures.end
    c.preceding_numbers.ensures.row)
    c.new-in-Prev.ensures.numbers

pub returns-in-Prev-clause-nodes : goal.returns-in-Prev-clause-nodes
returns-in-Prev-clause-nodes c =
    let t = c.args.table.now in
    let n = c.args.number in
    let d = c.args.direction in
    let row = c.preceding_numbers.result in
    nodes-left t (row_numbers c.new-in-Prev.result) (numbers_between row.start (n + 1) d)
    (sibling_paths d (root_of t) (path_at t n))
    (siblings-prev t n row.start row.end d c.in-Prev.is c.preceding_numbers.ensures.end
    c.preceding_numbers.ensures.row)
    c.new-in-Prev.ensures.numbers
