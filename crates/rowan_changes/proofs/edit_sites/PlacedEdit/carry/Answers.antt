use Rattle.std.proofs.Common.{◌<◌, length, ap, subst, arith}
use Rattle.rowan_changes.specs.Zipper.{Fork}
use Rattle.rowan_changes.proofs.SiteLemmas.{parts-within, fork-within}
use Rattle.rowan_changes.proofs.edit_sites.PlacedEdit.carry.Goals as goal

pub moved_index-requires-clause-within : goal.moved_index-requires-clause-within
moved_index-requires-clause-within c =
    let e = c.args.self.now in
    parts-within e.parent.items c.args.path.now e.end c.shared_len-shared.result
    (subst (λ x. Fork x c.args.path.now c.shared_len-shared.result) c.as_slice.ensures.value
    c.shared_len-shared.ensures) c.requires.before

pub split_at-requires : goal.split_at-requires
split_at-requires c =
    let fork = subst (λ x. Fork x c.args.path.now c.shared_len-shared.result)
    c.as_slice.ensures.value c.shared_len-shared.ensures in
    omega (
      arith,
      (fork-within c.args.self.now.parent.items c.args.path.now c.shared_len-shared.result fork).0,
      c.requires.len,
      ap length c.as_slice-2.ensures.value,
    )

pub split_at-requires-2 : goal.split_at-requires-2
split_at-requires-2 c =
    let e = c.args.self.now in
    let fork = subst (λ x. Fork x c.args.path.now c.shared_len-shared.result)
    c.as_slice.ensures.value c.shared_len-shared.ensures in
    let less : c.shared_len-shared.result < length c.args.path.now =
    parts-within e.parent.items c.args.path.now e.end c.shared_len-shared.result fork
    c.requires.before in
    omega (arith, less)
