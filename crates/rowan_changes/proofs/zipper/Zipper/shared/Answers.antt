use Rattle.std.proofs.Common.{◌≡◌, ◌+◌, ◌<◌, ◌≤◌, ◌++◌, ◌∷◌, [], suc, length, take, Some, refl, sym}
use Rattle.std.proofs.Common.{◌∙◌, ap, subst, arith}
use Rattle.std.specs.Prelude.{slice_get, slice_index_or}
use Rattle.std.proofs.lemmas.List.{length-map}
use Rattle.rowan_terms.proofs.Lists.{at_map}
use Rattle.rowan_changes.specs.declared.open_node.OpenNode.{OpenNode}
use Rattle.rowan_changes.specs.Zipper.{path_of}
use Rattle.rowan_changes.proofs.OpenNodeLemmas.{take-more}
use Rattle.rowan_changes.proofs.Places.{fork-ends, fork-parts, fork-whole}
use Rattle.rowan_changes.proofs.Ways.{get-at, get-index}
use Rattle.rowan_changes.proofs.zipper.Zipper.shared.Goals as goal

pub returns-in_default-clause-fork : goal.returns-in_default-clause-fork
returns-in_default-clause-fork c =
    let above = c.args.self.now.above.items in
    let k = c.loop-count.count in
    let inv = c.loop-count.invariant in
    let past : length c.deref.result.now ≤ k = c.in_default.ensures.lookup.3 in
    let len : length (path_of c.args.self.now) ≡ k =
    omega (
      arith,
      past,
      ap length c.deref.ensures.value,
      length-map above (λ (n : OpenNode). n.kept),
      inv.0,
    ) in
    fork-ends k (path_of c.args.self.now) c.args.path.now inv.1 len
    (omega (arith, c.loop-count-test.true))

pub returns-then-node-index-clause-fork : goal.returns-then-node-index-clause-fork
returns-then-node-index-clause-fork c =
    let above = c.args.self.now.above.items in
    let path = c.args.path.now in
    let k = c.loop-count.count in
    let n = c.in-Some.node.now in
    let less : k < length path = omega (arith, c.loop-count-test.true) in
    let at : slice_get above k ≡ Some n =
    subst (λ ns. slice_get ns k ≡ Some n) c.deref.ensures.value
    (get-at c.deref.result.now k n c.in-Some.ensures.lookup.3.0 c.in-Some.ensures.lookup.1) in
    fork-parts k (path_of c.args.self.now) path n.kept (slice_index_or path k 0)
    c.loop-count.invariant.1 (at_map (λ (m : OpenNode). m.kept) above k n at)
    (get-index path k less) c.if-node-index.true

pub loop-count-preserved : goal.loop-count-preserved
loop-count-preserved c =
    let above = c.args.self.now.above.items in
    let p = path_of c.args.self.now in
    let path = c.args.path.now in
    let k = c.loop-count.count in
    let n = c.in-Some.node.now in
    let next : suc k ≡ k + 1 = omega arith in
    let less : k < length path = omega (arith, c.loop-count-test.true) in
    let here : k < length c.deref.result.now = c.in-Some.ensures.lookup.3.0 in
    let at : slice_get above k ≡ Some n =
    subst (λ ns. slice_get ns k ≡ Some n) c.deref.ensures.value
    (get-at c.deref.result.now k n here c.in-Some.ensures.lookup.1) in (
      omega (arith, here, ap length c.deref.ensures.value),
      ap (λ m. take m p) (sym next)
          ∙ take-more p k n.kept (at_map (λ (m : OpenNode). m.kept) above k n at)
          ∙ ap (λ ys. ys ++ n.kept ∷ []) c.loop-count.invariant.1
          ∙ ap (λ y. take k path ++ y ∷ []) c.if-node-index.false
          ∙ sym (take-more path k (slice_index_or path k 0) (get-index path k less))
          ∙ ap (λ m. take m path) next,
    )

pub returns-clause-fork : goal.returns-clause-fork
returns-clause-fork c =
    let above = c.args.self.now.above.items in
    let p = path_of c.args.self.now in
    let path = c.args.path.now in
    let inv = c.loop-count.invariant in
    let all : c.loop-count.count ≡ length path = omega (arith, c.loop-count-test.false) in
    fork-whole (length path) p path (subst (λ k. take k p ≡ take k path) all inv.1) refl
    (omega (arith, all, inv.0, length-map above (λ (n : OpenNode). n.kept)))
