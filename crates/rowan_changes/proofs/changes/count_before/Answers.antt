use Rattle.std.proofs.Common.{◌<◌, ◌≤◌, rules}
use Rattle.std.specs.Prelude.{nat_lt}
use Rattle.std.proofs.lemmas.Bool.{ltb-true, ltb-false}
use Rattle.std.proofs.lemmas.List.Sorted.{IsPartitionPoint-from_clause}
use Rattle.rowan_changes.specs.declared.changes.Change.{Change}
use Rattle.rowan_changes.proofs.ChangeLemmas.{parted, all-before, all-behind}
use Rattle.rowan_changes.proofs.changes.count_before.Goals as goal

pub returns-clause-before : goal.returns-clause-before
returns-clause-before c =
    let x = c.args.offset in
    let cs = c.args.list.now in
    let point = IsPartitionPoint-from_clause (λ (d : Change). nat_lt d.range.start x) _ _
    c.partition_point.ensures.partitioned (parted cs 0 x c.requires) (λ a r q k. search rules) in
    all-before (λ d. d.range.start < x) cs _
    (λ k d l h. ltb-true _ x (point.0 k d l h))

pub returns-clause-behind : goal.returns-clause-behind
returns-clause-behind c =
    let x = c.args.offset in
    let cs = c.args.list.now in
    let point = IsPartitionPoint-from_clause (λ (d : Change). nat_lt d.range.start x) _ _
    c.partition_point.ensures.partitioned (parted cs 0 x c.requires) (λ a r q k. search rules) in
    all-behind (λ d. x ≤ d.range.start) cs _
    (λ k d l h. ltb-false _ x (point.1 k d l h))
