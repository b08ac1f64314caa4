use Rattle.std.proofs.Common.{sym, ap, arith}
use Rattle.rowan_table.specs.Moves.{first_at}
use Rattle.rowan_table.specs.Table.{entry_path}
use Rattle.rowan_table.proofs.RowLemmas.{first_split}
use Rattle.rowan_table.proofs.table.Table.first_in.Goals as goal
use Rattle.rowan_table.specs.TableView.{entries_of}

pub returns : goal.returns
returns c =
    record {
      path = sym (ap first_at (first_split (entry_path (entries_of c.args.self.now))
          c.args.row.start c.args.row.end (omega (arith, c.requires.order, c.if-row.false))));
      within = omega (arith, c.requires.order, c.requires.within, c.if-row.false);
    }
