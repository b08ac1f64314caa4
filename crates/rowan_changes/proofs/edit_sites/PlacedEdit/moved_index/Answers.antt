use Rattle.std.proofs.Common.{◌≡◌, ◌<◌, ◌≤◌, ◌+◌, ◌-◌, length, Some, ap, subst, arith}
use Rattle.std.specs.Prelude.{slice_get, slice_index_or, IfOk}
use Rattle.rowan_changes.proofs.SiteLemmas.{parted-order, ended-order, carried-parted, carried-ended}
use Rattle.rowan_changes.proofs.SiteLemmas.{fork-within, moved-to}
use Rattle.rowan_changes.proofs.Ways.{get-at, get-index}
use Rattle.rowan_changes.proofs.edit_sites.PlacedEdit.moved_index.Goals as goal

pub overflow_sub-index : goal.overflow_sub-index
overflow_sub-index c =
    let e = c.args.self.now in
    let q = e.parent.items in
    let p = c.args.path.now in
    let s = c.args.shared in
    let long : length q ≤ s =
    subst (λ x. length x ≤ s) c.as_slice.ensures.value c.in_default.ensures.lookup.3 in
    ended-order q p e.end s (slice_index_or p s 0) c.requires.fork long
    (get-index p s c.requires.within) c.requires.before

pub returns-in_default-clause-ok : goal.returns-in_default-clause-ok
returns-in_default-clause-ok c =
    let e = c.args.self.now in
    let q = e.parent.items in
    let p = c.args.path.now in
    let s = c.args.shared in
    let w = e.new_place.items in
    let long : length q ≤ s =
    subst (λ x. length x ≤ s) c.as_slice.ensures.value c.in_default.ensures.lookup.3 in
    moved-to c.index_sum.result (slice_index_or p s 0 - e.end) e.new_end q p w e.end e.new_end s
    c.index_sum.ensures.ok
    (carried-ended q p w e.end e.new_end s (slice_index_or p s 0) c.requires.fork long
    (get-index p s c.requires.within) c.requires.len)

pub overflow_sub-index-2 : goal.overflow_sub-index-2
overflow_sub-index-2 c =
    let e = c.args.self.now in
    let q = e.parent.items in
    let p = c.args.path.now in
    let s = c.args.shared in
    let i = c.in-Some.before.now in
    let own : slice_get q s ≡ Some i =
    subst (λ x. slice_get x s ≡ Some i) c.as_slice.ensures.value
    (get-at c.as_slice.result.now s i c.in-Some.ensures.lookup.3.0 c.in-Some.ensures.lookup.1) in
    parted-order q p e.end s i (slice_index_or p s 0) c.requires.fork own
    (get-index p s c.requires.within) c.requires.before

pub returns-clause-ok : goal.returns-clause-ok
returns-clause-ok c =
    let e = c.args.self.now in
    let q = e.parent.items in
    let p = c.args.path.now in
    let s = c.args.shared in
    let w = e.new_place.items in
    let i = c.in-Some.before.now in
    let own : slice_get q s ≡ Some i =
    subst (λ x. slice_get x s ≡ Some i) c.as_slice.ensures.value
    (get-at c.as_slice.result.now s i c.in-Some.ensures.lookup.3.0 c.in-Some.ensures.lookup.1) in
    let room : s < length w =
    omega (
      arith,
      c.requires.len,
      (fork-within q p s c.requires.fork).0,
      ap length c.as_slice.ensures.value,
      c.in-Some.ensures.lookup.3.0,
    ) in
    let j = slice_index_or w s 0 in
    moved-to c.index_sum-2.result (slice_index_or p s 0 - i) j q p w e.end e.new_end s
    (subst (λ x. IfOk c.index_sum-2.result (λ n. n ≡ slice_index_or p s 0 - i + slice_index_or x s 0))
    c.as_slice-place.ensures.value c.index_sum-2.ensures.ok)
    (carried-parted q p w e.end e.new_end s i (slice_index_or p s 0) j c.requires.fork own
    (get-index p s c.requires.within) (get-index w s room))
