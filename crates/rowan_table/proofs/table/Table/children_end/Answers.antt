use Rattle.std.proofs.Common.{◌+◌, arith}
use Rattle.rowan_table.proofs.NodeLemmas.{row_end-next, row_end-last}
use Rattle.rowan_table.proofs.TableLemmas.{slice_get-some}
use Rattle.rowan_table.proofs.table.Table.children_end.Goals as goal

pub returns-then-node-count : goal.returns-then-node-count
returns-then-node-count c = λ x at.
    let s = c.args.self.now in
    omega (
      arith,
      c.len.ensures,
      row_end-last s.nodes s.entries.items s.numbered c.args.node x at
          (omega (arith, c.if-node-count.true, c.len-count.ensures)),
    )

pub returns : goal.returns
returns c = λ x at.
    let s = c.args.self.now in
    let next = slice_get-some s.nodes (c.args.node + 1)
    (omega (arith, c.requires, c.if-node-count.false, c.len-count.ensures)) in
    omega (
      arith,
      c.first_child.ensures next.0 next.1,
      row_end-next s.nodes s.entries.items s.numbered c.args.node x next.0 at next.1,
    )
