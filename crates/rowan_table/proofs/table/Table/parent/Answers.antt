use Rattle.std.proofs.Common.{sym, ◌∙◌, ap, arith}
use Rattle.rowan_table.specs.Moves.{parent_path}
use Rattle.rowan_table.specs.Table.{facts_of, entry_index, entry_path}
use Rattle.rowan_table.proofs.PathLemmas.{parent_path-child}
use Rattle.rowan_table.proofs.TableLemmas.{node_above}
use Rattle.rowan_table.proofs.table.Table.parent.Goals as goal
use Rattle.rowan_table.specs.TableView.{entries_of}

pub returns-clause-found : goal.returns-clause-found
returns-clause-found c =
    let s = c.args.self.now in
    let es = entries_of s in
    let e = facts_of s.nodes c.entry.result.now in
    let below = c.entry.ensures.below (omega arith) in
    record {
      path = sym (ap parent_path below.path ∙ parent_path-child (entry_path es e.parent)
          (entry_index es c.args.number e));
      node = record {
        within = omega (arith, below.earlier, c.requires);
        is = node_above es s.complete c.args.number e c.entry.ensures.at (omega arith);
      };
    }
