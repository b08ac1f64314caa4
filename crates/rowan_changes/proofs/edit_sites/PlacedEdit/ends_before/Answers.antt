use Rattle.std.proofs.Common.{◌≡◌, ◌≤◌, length, Some, sym, subst}
use Rattle.std.specs.Prelude.{slice_get}
use Rattle.rowan_changes.specs.Zipper.{Fork}
use Rattle.rowan_changes.proofs.SiteLemmas.{lies-none, lies-parted, lies-ended}
use Rattle.rowan_changes.proofs.Ways.{get-at}
use Rattle.rowan_changes.proofs.edit_sites.PlacedEdit.ends_before.Goals as goal

pub returns-in_default : goal.returns-in_default
returns-in_default c =
    let q = c.args.self.now.parent.items in
    let p = c.args.path.now in
    let s = c.shared_len-shared.result in
    let fork : Fork q p s =
    subst (λ x. Fork x p s) c.as_slice-parent.ensures.value c.shared_len-shared.ensures in
    sym (lies-none q p c.args.self.now.end s fork c.in_default.ensures.lookup.3)

pub returns-in-Some-get : goal.returns-in-Some-get
returns-in-Some-get c =
    let q = c.args.self.now.parent.items in
    let p = c.args.path.now in
    let s = c.shared_len-shared.result in
    let fork : Fork q p s =
    subst (λ x. Fork x p s) c.as_slice-parent.ensures.value c.shared_len-shared.ensures in
    let k = c.in-Some.index.now in
    let i = c.in-Some-get.before.now in
    let at : slice_get p s ≡ Some k =
    get-at p s k c.in-Some.ensures.lookup.3.0 c.in-Some.ensures.lookup.1 in
    let own : slice_get q s ≡ Some i =
    subst (λ x. slice_get x s ≡ Some i) c.as_slice-parent.ensures.value
    (get-at c.as_slice-parent.result.now s i c.in-Some-get.ensures.lookup.3.0
    c.in-Some-get.ensures.lookup.1) in
    sym (lies-parted q p c.args.self.now.end s i k fork own at)

pub returns-in-None : goal.returns-in-None
returns-in-None c =
    let q = c.args.self.now.parent.items in
    let p = c.args.path.now in
    let s = c.shared_len-shared.result in
    let fork : Fork q p s =
    subst (λ x. Fork x p s) c.as_slice-parent.ensures.value c.shared_len-shared.ensures in
    let k = c.in-Some.index.now in
    let at : slice_get p s ≡ Some k =
    get-at p s k c.in-Some.ensures.lookup.3.0 c.in-Some.ensures.lookup.1 in
    let long : length q ≤ s =
    subst (λ x. length x ≤ s) c.as_slice-parent.ensures.value c.in-None.ensures.lookup.3 in
    sym (lies-ended q p c.args.self.now.end s k fork long at)
