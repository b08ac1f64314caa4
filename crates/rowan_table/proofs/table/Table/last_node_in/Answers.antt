use Rattle.std.proofs.Common.{◌-◌, sym, ◌∙◌, arith}
use Rattle.rowan_table.specs.Moves.{is_node_at}
use Rattle.rowan_table.specs.Table.{root_node, entry_path}
use Rattle.rowan_table.proofs.RowLemmas.{found_last, missed_last}
use Rattle.rowan_table.proofs.table.Table.last_node_in.Goals as goal
use Rattle.rowan_table.specs.TableView.{entries_of}

pub returns-then-is_node : goal.returns-then-is_node
returns-then-is_node c =
    let es = entries_of c.args.self.now in
    record {
      path = sym (c.loop-number.invariant
          ∙ found_last (is_node_at (root_node es)) (entry_path es) c.args.row.start
          c.loop-number.number (c.loop-number.number - 1) (omega (arith, c.loop-number-test.true))
          (omega (arith, c.loop-number-test.true)) (sym c.is_node.ensures ∙ c.if-is_node.true));
      node = record {
        within = omega (arith, c.requires.within, c.loop-number-test.true);
        is = sym c.is_node.ensures ∙ c.if-is_node.true;
      };
    }

pub loop-number-preserved : goal.loop-number-preserved
loop-number-preserved c =
    let es = entries_of c.args.self.now in
    c.loop-number.invariant
    ∙ missed_last (is_node_at (root_node es)) (entry_path es) c.args.row.start c.loop-number.number
    (c.loop-number.number - 1) (omega (arith, c.loop-number-test.true))
    (omega (arith, c.loop-number-test.true)) (sym c.is_node.ensures ∙ c.if-is_node.false)
