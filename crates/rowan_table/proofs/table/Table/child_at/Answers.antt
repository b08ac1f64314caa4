use Rattle.std.proofs.Common.{sym, ◌∙◌, ap, ◌-◌, arith}
use Rattle.std.specs.Prelude.{slice_get}
use Rattle.rowan_table.specs.Table.{entry_path}
use Rattle.rowan_table.proofs.RowLemmas.{row-get, row-past}
use Rattle.rowan_table.proofs.table.Table.child_at.Goals as goal
use Rattle.rowan_table.specs.TableView.{entries_of}

pub returns-then-index-children : goal.returns-then-index-children
returns-then-index-children c =
    let es = entries_of c.args.self.now in
    let row = c.child_numbers-children.result in
    record {
      path = sym (row-past (entry_path es) row.start (row.end - row.start) c.args.index
          c.if-index-children.true)
          ∙ ap (λ ps. slice_get ps c.args.index) c.child_numbers-children.ensures.row.row;
      within = tt;
    }

pub returns : goal.returns
returns c =
    let es = entries_of c.args.self.now in
    let row = c.child_numbers-children.result in
    record {
      path = sym (row-get (entry_path es) row.start (row.end - row.start) c.args.index
          c.if-index-children.false)
          ∙ ap (λ ps. slice_get ps c.args.index) c.child_numbers-children.ensures.row.row;
      within = omega (
        arith,
        c.child_numbers-children.ensures.row.within,
        c.child_numbers-children.ensures.row.order,
        c.if-index-children.false,
      );
    }
