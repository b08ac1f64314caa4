use Rattle.std.proofs.Common.{◌≡◌, true, false, rules}
use Rattle.std.proofs.lemmas.List.Sorted.{IsPartitionPoint-from_clause}
use Rattle.rowan_changes.specs.declared.edit_sites.PlacedEdit.{PlacedEdit}
use Rattle.rowan_changes.specs.Edit.{lies_before}
use Rattle.rowan_changes.proofs.SiteListLemmas.{ends_at_path, parted, in-front, from-on}
use Rattle.rowan_changes.proofs.edit_sites.count_before.Goals as goal

pub returns-clause-before : goal.returns-clause-before
returns-clause-before c =
    let p = c.args.path.now in
    let es = c.args.list.now in
    let point = IsPartitionPoint-from_clause (λ (e : PlacedEdit). ends_at_path p e) _ _
    c.partition_point.ensures.partitioned (parted es p c.requires) (λ a r q k. search rules) in
    in-front (λ s. lies_before s.parent s.end p ≡ true) es _ point.0

pub returns-clause-others : goal.returns-clause-others
returns-clause-others c =
    let p = c.args.path.now in
    let es = c.args.list.now in
    let point = IsPartitionPoint-from_clause (λ (e : PlacedEdit). ends_at_path p e) _ _
    c.partition_point.ensures.partitioned (parted es p c.requires) (λ a r q k. search rules) in
    from-on (λ s. lies_before s.parent s.end p ≡ false) es _ point.1
