use Rattle.std.proofs.Common.{sym, ◌∙◌, arith}
use Rattle.rowan_table.specs.Moves.{is_node_at}
use Rattle.rowan_table.specs.Table.{root_node, entry_path}
use Rattle.rowan_table.proofs.RowLemmas.{missed_first}
use Rattle.rowan_table.proofs.table.Table.first_node_in.Goals as goal
use Rattle.rowan_table.specs.TableView.{entries_of}

pub loop-number-preserved : goal.loop-number-preserved
loop-number-preserved c =
    let es = entries_of c.args.self.now in
    c.loop-number.invariant
    ∙ missed_first (is_node_at (root_node es)) (entry_path es) c.loop-number.number c.args.row.end
    (omega (arith, c.loop-number-test.true)) (sym c.is_node.ensures ∙ c.if-is_node.false)
