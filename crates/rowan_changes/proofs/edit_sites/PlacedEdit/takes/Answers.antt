use Rattle.std.proofs.Common.{◌≡◌, false, ◌<◌, ◌≤◌, length, Some, sym, ◌∙◌, ap, subst, arith}
use Rattle.std.specs.Prelude.{slice_get, nat_le, nat_lt, ◌&&◌}
use Rattle.std.proofs.lemmas.Bool.{le-leb, lt-leb}
use Rattle.rowan_changes.specs.Zipper.{Fork}
use Rattle.rowan_changes.proofs.SiteLemmas.{among-parted, among-none, among-at}
use Rattle.rowan_changes.proofs.Ways.{get-at}
use Rattle.rowan_changes.proofs.edit_sites.PlacedEdit.takes.Goals as goal

pub returns-then-shared-parent : goal.returns-then-shared-parent
returns-then-shared-parent c =
    let e = c.args.self.now in
    let q = e.parent.items in
    let p = c.args.path.now in
    let s = c.shared_len-shared.result in
    let fork : Fork q p s =
    subst (λ x. Fork x p s) c.as_slice-parent.ensures.value c.shared_len-shared.ensures in
    let less : s < length q =
    omega (arith, c.if-shared-parent.true, ap length c.as_slice-parent.ensures.value) in
    sym (among-parted q p e.start e.end s fork less)

pub returns-then-self-index : goal.returns-then-self-index
returns-then-self-index c =
    let e = c.args.self.now in
    let q = e.parent.items in
    let p = c.args.path.now in
    let s = c.shared_len-shared.result in
    let fork : Fork q p s =
    subst (λ x. Fork x p s) c.as_slice-parent.ensures.value c.shared_len-shared.ensures in
    let long : length q ≤ s =
    omega (arith, c.if-shared-parent.false, ap length c.as_slice-parent.ensures.value) in
    let k = c.in-Some.index.now in
    let at : slice_get p s ≡ Some k =
    get-at p s k c.in-Some.ensures.lookup.3.0 c.in-Some.ensures.lookup.1 in
    sym (among-at q p e.start e.end s k fork long at
    ∙ ap (λ b. b && nat_lt k e.end) (le-leb e.start k c.if-self-index.true))

pub returns-else-self-index : goal.returns-else-self-index
returns-else-self-index c =
    let e = c.args.self.now in
    let q = e.parent.items in
    let p = c.args.path.now in
    let s = c.shared_len-shared.result in
    let fork : Fork q p s =
    subst (λ x. Fork x p s) c.as_slice-parent.ensures.value c.shared_len-shared.ensures in
    let long : length q ≤ s =
    omega (arith, c.if-shared-parent.false, ap length c.as_slice-parent.ensures.value) in
    let k = c.in-Some.index.now in
    let at : slice_get p s ≡ Some k =
    get-at p s k c.in-Some.ensures.lookup.3.0 c.in-Some.ensures.lookup.1 in
    let far : nat_le e.start k ≡ false = lt-leb e.start k c.if-self-index.false in
    far ∙ sym (among-at q p e.start e.end s k fork long at
    ∙ ap (λ b. b && nat_lt k e.end) far)

pub returns-in-None : goal.returns-in-None
returns-in-None c =
    let e = c.args.self.now in
    let q = e.parent.items in
    let p = c.args.path.now in
    let s = c.shared_len-shared.result in
    let fork : Fork q p s =
    subst (λ x. Fork x p s) c.as_slice-parent.ensures.value c.shared_len-shared.ensures in
    sym (among-none q p e.start e.end s fork c.in-None.ensures.lookup.3)
