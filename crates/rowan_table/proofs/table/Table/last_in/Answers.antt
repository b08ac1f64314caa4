use Rattle.std.proofs.Common.{◌-◌, sym, ap, arith}
use Rattle.rowan_table.specs.Moves.{first_at}
use Rattle.rowan_table.specs.Table.{entry_path}
use Rattle.rowan_table.proofs.RowLemmas.{last_split}
use Rattle.rowan_table.proofs.table.Table.last_in.Goals as goal
use Rattle.rowan_table.specs.TableView.{entries_of}

pub returns : goal.returns
returns c =
    record {
      path = sym (ap first_at (last_split (entry_path (entries_of c.args.self.now)) c.args.row.start
          c.args.row.end (c.args.row.end - 1) (omega arith) (omega arith)));
      within = omega (arith, c.requires.order, c.requires.within, c.if-row.false);
    }
