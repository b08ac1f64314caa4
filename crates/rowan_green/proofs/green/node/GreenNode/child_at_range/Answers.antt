use Rattle.std.proofs.Common.{◌≤◌, map, length, Some, sym, ap, ◌∙◌, subst, arith}
use Rattle.std.proofs.lemmas.List.{length-map}
use Rattle.std.specs.Prelude.{slice_get}
use Rattle.rowan_green.specs.Search.{HasRange, IsOnlyChoice, IsChildAt, child_start, digits}
use Rattle.rowan_green.specs.View.{child_term}
use Rattle.rowan_green.proofs.ChildList.{child-at}
use Rattle.rowan_green.proofs.SearchLemmas.{bounds}
use Rattle.rowan_green.proofs.green.node.GreenNode.child_at_range.Goals as goal

pub returns-in_err-child-clause-none : goal.returns-in_err-child-clause-none
returns-in_err-child-clause-none c =
    let cs = c.child_slice-children.result.now in
    let terms = c.child_slice-children.ensures.terms in
    let choice = subst (λ ts. c.args.range.start ≤ c.args.range.end
    → IsOnlyChoice ts c.args.range.start c.args.range.end c.search-index.result) terms
    c.search-index.ensures.choice in
    λ none k p.
    let at = ((choice (bounds _ _ _ _ p).order).only k p).1 in
    omega (
      arith,
      at.place,
      length-map cs child_term,
      ap length terms,
      c.in_err-child.ensures.lookup.3,
    )

pub returns-in_err-child-clause-most : goal.returns-in_err-child-clause-most
returns-in_err-child-clause-most c =
    let cs = c.child_slice-children.result.now in
    let terms = c.child_slice-children.ensures.terms in
    let count = sym (length-map cs child_term) ∙ ap length terms in
    omega (arith, c.search-index.ensures.most, ap digits count)

pub returns-then-not-contains_range-clause-none : goal.returns-then-not-contains_range-clause-none
returns-then-not-contains_range-clause-none c =
    let cs = c.child_slice-children.result.now in
    let terms = c.child_slice-children.ensures.terms in
    λ none k q.
    let r : IsChildAt (map child_term cs) c.args.range.start c.args.range.end k =
    subst (λ ts. IsChildAt ts c.args.range.start c.args.range.end k) (sym terms) q in
    let at = ((c.search-index.ensures.choice c.contains_range.ensures.order).only k r).1 in
    let yes = c.contains_range.ensures.contains.1 (
      omega (arith, at.from, ap (λ s. s.start) c.rel_range.ensures),
      omega (arith, at.to, ap (λ s. s.end) c.rel_range.ensures),
    ) in
    absurd (cc (yes, c.if-not-contains_range.true))

pub returns-then-not-contains_range-clause-most : goal.returns-then-not-contains_range-clause-most
returns-then-not-contains_range-clause-most c =
    let cs = c.child_slice-children.result.now in
    let terms = c.child_slice-children.ensures.terms in
    let count = sym (length-map cs child_term) ∙ ap length terms in
    omega (arith, c.search-index.ensures.most, ap digits count)

pub returns-clause-some : goal.returns-clause-some
returns-clause-some c =
    let cs = c.child_slice-children.result.now in
    let look = c.in_ok-child.ensures.lookup in
    let at = child-at 0 cs c.search-index.result c.in_ok-child.child.now
    c.child_slice-children.ensures.sound.offsets look.3.0 look.1 in
    let terms = c.child_slice-children.ensures.terms in
    let has = c.contains_range.ensures.contains.0 c.if-not-contains_range.false in
    let in_range : HasRange (map child_term cs) c.args.range.start c.args.range.end
    c.search-index.result = record {
      place = omega (arith, look.3.0, length-map cs child_term);
      from = omega (arith, has.0, ap (λ s. s.start) c.rel_range.ensures);
      to = omega (arith, has.1, ap (λ s. s.end) c.rel_range.ensures);
    } in
    let is = (c.search-index.ensures.choice c.contains_range.ensures.order).is in_range in (
      subst (λ ts. IsChildAt ts c.args.range.start c.args.range.end c.search-index.result) terms is,
      omega (arith, at.offset) ∙ ap (λ ts. child_start ts c.search-index.result) terms,
      sym (ap (λ ts. slice_get ts c.search-index.result) terms) ∙ at.term
          ∙ ap (λ t. Some t) (sym c.as_ref.ensures),
    )

pub returns-clause-most : goal.returns-clause-most
returns-clause-most c =
    let cs = c.child_slice-children.result.now in
    let terms = c.child_slice-children.ensures.terms in
    let count = sym (length-map cs child_term) ∙ ap length terms in
    omega (arith, c.search-index.ensures.most, ap digits count)
