use Rattle.std.proofs.Common.{◌≡◌, map, refl, subst, arith}
use Rattle.rowan_green.specs.View.{child_term}
use Rattle.rowan_green.proofs.SearchLemmas.{IsNarrowed, narrowed-less, narrowed-greater}
use Rattle.rowan_green.proofs.SearchLemmas.{overlap-choice, border, IsCounted-step}
use Rattle.rowan_green.proofs.green.node.GreenChild.search.Goals as goal

pub loop-low-preserved-in-Less : goal.loop-low-preserved-in-Less
loop-low-preserved-in-Less c = (
  narrowed-less _ _ _ _ _ _ c.loop-low.invariant.0 (omega (arith, c.loop-low-test.true))
      (c.in-Less.ensures.less refl),
  IsCounted-step _ _ _ _ _ _ c.loop-low.invariant.1 (omega (arith, c.loop-low-test.true))
      (omega arith) c.compare.ensures.comparisons c.compare.ensures.grows,
  omega arith,
)

pub loop-low-preserved : goal.loop-low-preserved
loop-low-preserved c =
    let greater = c.in-Greater.ensures.greater refl in (
      narrowed-greater _ _ _ _ _ _ c.loop-low.invariant.0 (omega arith)
          (omega (arith, c.loop-low-test.true)) greater.0 greater.1,
      IsCounted-step _ _ _ _ _ _ c.loop-low.invariant.1 (omega (arith, c.loop-low-test.true))
          (omega arith) c.compare.ensures.comparisons c.compare.ensures.grows,
      omega arith,
    )

pub returns-in-Equal-clause-choice : goal.returns-in-Equal-clause-choice
returns-in-Equal-clause-choice c =
    let over = c.in-Equal.ensures.equal refl in
    λ ordered. overlap-choice _ _ _ _ ordered over.0 over.1

pub returns-in-Equal-clause-most : goal.returns-in-Equal-clause-most
returns-in-Equal-clause-most c =
    omega (
      arith,
      (IsCounted-step _ _ 0 _ _ _ c.loop-low.invariant.1
          (omega (arith, c.loop-low-test.true)) (omega arith) c.compare.ensures.comparisons
          c.compare.ensures.grows).most,
    )

pub returns-clause-choice : goal.returns-clause-choice
returns-clause-choice c =
    let ts = map child_term c.args.children.now in
    let s = c.loop-low.invariant.0 in
    let met : c.loop-low.high ≡ c.loop-low.low = omega (arith, s.order, c.loop-low-test.false) in
    let narrowed : IsNarrowed ts c.args.range.start c.args.range.end c.loop-low.low c.loop-low.low =
    subst (λ n. IsNarrowed ts c.args.range.start c.args.range.end c.loop-low.low n) met s in
    λ ordered. rw c.saturating_sub.ensures (border _ _ _ _ ordered narrowed)
