use Rattle.std.proofs.Common.{arith}
use Rattle.rowan_table.specs.Table.{facts_of}
use Rattle.rowan_table.specs.TableView.{entries_of}
use Rattle.rowan_table.proofs.TableLemmas.{following_to}
use Rattle.rowan_table.proofs.table.Table.following_numbers.Goals as goal

pub returns-clause-row : goal.returns-clause-row
returns-clause-row c =
    let s = c.args.self.now in
    let e = facts_of s.nodes c.entry.result.now in
    following_to (entries_of s) s.complete c.args.number e c.child_numbers-siblings.result.end
    c.entry.ensures.at (omega arith) (λ p above.
    (c.child_numbers-siblings.ensures.bounds p above).1)
