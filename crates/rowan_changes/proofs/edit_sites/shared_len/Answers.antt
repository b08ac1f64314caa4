use Rattle.std.proofs.Common.{◌≡◌, ◌+◌, ◌<◌, ◌≤◌, ◌++◌, ◌∷◌, [], suc, length, take, Some, refl, sym}
use Rattle.std.proofs.Common.{◌∙◌, ap, subst, arith}
use Rattle.std.specs.Prelude.{slice_get, slice_index_or}
use Rattle.rowan_changes.proofs.OpenNodeLemmas.{take-more}
use Rattle.rowan_changes.proofs.Places.{fork-ends, fork-parts, fork-whole}
use Rattle.rowan_changes.proofs.Ways.{get-at, get-index}
use Rattle.rowan_changes.proofs.edit_sites.shared_len.Goals as goal

pub returns-in_default : goal.returns-in_default
returns-in_default c =
    let k = c.loop-depth.depth in
    let path = c.args.path.now in
    let other = c.args.other.now in
    let past : length other ≤ k = c.in_default.ensures.lookup.3 in
    let less : k < length path = omega (arith, c.loop-depth-test.true) in
    fork-whole k path other c.loop-depth.invariant.1 (omega (arith, past, c.loop-depth.invariant.0))
    (omega (arith, less))

pub returns-then-there-index : goal.returns-then-there-index
returns-then-there-index c =
    let k = c.loop-depth.depth in
    let path = c.args.path.now in
    let other = c.args.other.now in
    let less : k < length path = omega (arith, c.loop-depth-test.true) in
    let at : slice_get other k ≡ Some c.in-Some.there.now =
    get-at other k c.in-Some.there.now c.in-Some.ensures.lookup.3.0 c.in-Some.ensures.lookup.1 in
    fork-parts k path other (slice_index_or path k 0) c.in-Some.there.now c.loop-depth.invariant.1
    (get-index path k less) at (λ e. c.if-there-index.true (sym e))

pub loop-depth-preserved : goal.loop-depth-preserved
loop-depth-preserved c =
    let k = c.loop-depth.depth in
    let path = c.args.path.now in
    let other = c.args.other.now in
    let next : suc k ≡ k + 1 = omega arith in
    let less : k < length path = omega (arith, c.loop-depth-test.true) in
    let there = c.in-Some.there.now in
    let here : k < length other = c.in-Some.ensures.lookup.3.0 in
    let at : slice_get other k ≡ Some there =
    get-at other k there here c.in-Some.ensures.lookup.1 in (
      omega (arith, here),
      ap (λ m. take m path) (sym next) ∙ take-more path k (slice_index_or path k 0)
          (get-index path k less)
          ∙ ap (λ ys. ys ++ slice_index_or path k 0 ∷ []) c.loop-depth.invariant.1
          ∙ ap (λ y. take k other ++ y ∷ []) (sym c.if-there-index.false)
          ∙ sym (take-more other k there at) ∙ ap (λ m. take m other) next,
    )

pub returns : goal.returns
returns c =
    let path = c.args.path.now in
    let other = c.args.other.now in
    let inv = c.loop-depth.invariant in
    let all : c.loop-depth.depth ≡ length path = omega (arith, c.loop-depth-test.false) in
    fork-ends (length path) path other (subst (λ k. take k path ≡ take k other) all inv.1) refl
    (omega (arith, all, inv.0))
