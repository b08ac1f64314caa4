use Rattle.std.proofs.Common.{◌-◌, sym, ◌∙◌, ap, arith}
use Rattle.rowan_table.specs.Table.{facts_of}
use Rattle.rowan_table.specs.TableView.{entries_of}
use Rattle.rowan_table.proofs.TableLemmas.{above_of, index_above}
use Rattle.rowan_table.proofs.table.Table.index.Goals as goal

pub overflow_sub-result : goal.overflow_sub-result
overflow_sub-result c =
    let s = c.args.self.now in
    let e = facts_of s.nodes c.entry.result.now in
    let a = above_of (entries_of s) s.complete c.args.number e c.entry.ensures.at (omega arith) in
    omega (
      arith,
      (c.child_numbers-siblings.ensures.bounds a.0 a.1.above).0,
      (s.complete.parents c.args.number e a.0 c.entry.ensures.at (omega arith) a.1.above).place,
    )

pub returns : goal.returns
returns c =
    let s = c.args.self.now in
    let e = facts_of s.nodes c.entry.result.now in
    let a = above_of (entries_of s) s.complete c.args.number e c.entry.ensures.at (omega arith) in
    ap (λ k. c.args.number - k) (c.child_numbers-siblings.ensures.bounds a.0 a.1.above).0
    ∙ sym (index_above (entries_of s) c.args.number e a.0 a.1.above) ∙ sym c.entry.ensures.index
