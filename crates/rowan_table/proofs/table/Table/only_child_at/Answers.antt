use Rattle.std.proofs.Common.{◌≡◌, ◌≢◌, ℕ, ◌+◌, ◌-◌, ◌/◌, ◌<◌, ◌≤◌, ap, sym, refl, subst, rules}
use Rattle.std.proofs.Common.{arith}
use Rattle.rowan_green.specs.declared.utility_types.NodeOrToken.TheVariants.{Node}
use Rattle.rowan_terms.specs.Path.{subterm, offset}
use Rattle.rowan_green.specs.Search.{IsOnlyChoice}
use Rattle.rowan_green.specs.Span.{Span}
use Rattle.rowan_green.proofs.SearchLemmas.{IsNarrowed, not-narrowed, narrowed-less}
use Rattle.rowan_green.proofs.SearchLemmas.{narrowed-greater, overlap-choice, border}
use Rattle.rowan_green.proofs.SearchLemmas.{IsCounted-start, IsCounted-step}
use Rattle.rowan_table.specs.declared.table.Table.{Table}
use Rattle.rowan_table.specs.declared.table.search.Place.{Place}
use Rattle.rowan_table.specs.Moves.{children_of}
use Rattle.rowan_table.specs.TableView.{root_of, path_at, paths_below, IsPlace, StretchShows}
use Rattle.rowan_table.specs.TableView.{entries_of}
use Rattle.rowan_table.proofs.SearchLemmas.{IsAtPlace, at_place, place_lies, only_range_child}
use Rattle.rowan_table.proofs.SkipLemmas.{row_count}
use Rattle.rowan_table.proofs.table.Table.only_child_at.Goals as goal

-- the child in the middle of those that are left
at_middle : {t : Table} {parent : Place} {first stop low high : ℕ} {a b : ℕ} → IsPlace t parent
    → StretchShows t first stop (paths_below t parent.number)
    → IsNarrowed (children_of (subterm (Node (root_of t)) (path_at t parent.number))) a b low high
    → low < high → IsAtPlace t parent first stop (low + (high - low) / 2)
at_middle {low} {high} here row left some = at_place (low + (high - low) / 2) here row
    (omega (arith, left.place, some))

-- the child before those that are left, or the first of all
at_border : {t : Table} {parent : Place} {first stop low high : ℕ} {a b : ℕ} (i : ℕ)
    → IsPlace t parent → StretchShows t first stop (paths_below t parent.number)
    → IsNarrowed (children_of (subterm (Node (root_of t)) (path_at t parent.number))) a b low high
    → first ≢ stop → i ≡ low - 1 → IsAtPlace t parent first stop i
at_border {t} {parent} {first} {stop} i here row left some is =
    let count = row_count (entries_of t) (root_of t) (path_at t parent.number) first stop row in
    at_place i here row (omega (arith, is, left.order, left.place, count, row.order, some))

-- the range starts in the element
from_start : {t : Table} {parent : Place} {n : ℕ} → IsPlace t parent → parent.range.start ≤ n
    → offset (Node (root_of t)) (path_at t parent.number) ≤ n
from_start here from = omega (arith, from, ap (λ (r : Span). r.start) here.lies)

pub loop-low-init : goal.loop-low-init
loop-low-init c =
    let t = c.args.self.now in
    let row = c.child_numbers-children.result in
    let count = row_count (entries_of t) (root_of t) (path_at t c.args.parent.now.number) row.start
    row.end c.child_numbers-children.ensures.row in (
      not-narrowed _ _ _ _ (omega (arith, count)),
      IsCounted-start _ _ _ (omega (arith, count)),
      refl,
    )

pub overflow_add-number : goal.overflow_add-number
overflow_add-number c =
    let here = at_middle c.requires.place c.child_numbers-children.ensures.row
    c.loop-low.invariant.0 c.loop-low-test.true in
    omega (arith, here.less)

pub child_range-own-requires : goal.child_range-own-requires
child_range-own-requires c =
    let here = at_middle c.requires.place c.child_numbers-children.ensures.row
    c.loop-low.invariant.0 c.loop-low-test.true in
    here.up _ c.end-end.ensures.offset

pub loop-low-preserved-then-le : goal.loop-low-preserved-then-le
loop-low-preserved-then-le c =
    let here = at_middle c.requires.place c.child_numbers-children.ensures.row
    c.loop-low.invariant.0 c.loop-low-test.true in
    let lies = place_lies here c.child_range-own.ensures in
    let ends : c.end.result ≤ c.start.result = search rules in (
      narrowed-less _ _ _ _ _ _ c.loop-low.invariant.0 (omega (arith, c.loop-low-test.true))
          (omega (arith, ends, c.end.ensures.offset, c.start.ensures.offset, lies.1)),
      IsCounted-step _ _ _ _ _ _ c.loop-low.invariant.1 (omega (arith, c.loop-low-test.true))
          (omega arith) c.compare.ensures.comparisons c.compare.ensures.grows,
      omega arith,
    )

pub loop-low-preserved : goal.loop-low-preserved
loop-low-preserved c =
    let here = at_middle c.requires.place c.child_numbers-children.ensures.row
    c.loop-low.invariant.0 c.loop-low-test.true in
    let lies = place_lies here c.child_range-own.ensures in
    let from = from_start c.requires.place c.requires.from in
    let behind : c.start.result < c.end.result = search rules in
    let starts : c.end-else-le.result ≤ c.start-else-le.result = search rules in (
      narrowed-greater _ _ _ _ _ _ c.loop-low.invariant.0 (omega arith)
          (omega (arith, c.loop-low-test.true)) (omega
          (arith, behind, c.end.ensures.offset, c.start.ensures.offset, lies.1, from))
          (omega (
            arith,
            starts,
            c.end-else-le.ensures.offset,
            c.start-else-le.ensures.offset,
            lies.0,
          )),
      IsCounted-step _ _ _ _ _ _ c.loop-low.invariant.1 (omega (arith, c.loop-low-test.true))
          (omega arith) c.compare.ensures.comparisons c.compare.ensures.grows,
      omega arith,
    )

pub returns-else-le-2-clause-only : goal.returns-else-le-2-clause-only
returns-else-le-2-clause-only c =
    let here = at_middle c.requires.place c.child_numbers-children.ensures.row
    c.loop-low.invariant.0 c.loop-low-test.true in
    let lies = place_lies here c.child_range-own.ensures in
    let from = from_start c.requires.place c.requires.from in
    let behind : c.start.result < c.end.result = search rules in
    let over : c.start-else-le.result < c.end-else-le.result = search rules in
    only_range_child _ c.args.range _ _ _ here.path here.count from
    (λ ordered. overlap-choice _ _ _ _ ordered
    (omega (arith, behind, c.end.ensures.offset, c.start.ensures.offset, lies.1, from))
    (omega (
      arith,
      over,
      c.end-else-le.ensures.offset,
      c.start-else-le.ensures.offset,
      lies.0,
      from,
    )))

pub returns-else-le-2-clause-place : goal.returns-else-le-2-clause-place
returns-else-le-2-clause-place c =
    let here = at_middle c.requires.place c.child_numbers-children.ensures.row
    c.loop-low.invariant.0 c.loop-low-test.true in
    record { within = here.within; lies = c.child_range-own.ensures }

pub returns-else-le-2-clause-later : goal.returns-else-le-2-clause-later
returns-else-le-2-clause-later c =
    let here = at_middle c.requires.place c.child_numbers-children.ensures.row
    c.loop-low.invariant.0 c.loop-low-test.true in
    here.later

pub returns-else-le-2-clause-counts : goal.returns-else-le-2-clause-counts
returns-else-le-2-clause-counts c =
    let counted = IsCounted-step _ _ 0 _ _ _ c.loop-low.invariant.1
    (omega (arith, c.loop-low-test.true)) (omega arith) c.compare.ensures.comparisons
    c.compare.ensures.grows in
    record {
      most = omega (arith, counted.most);
      least = λ _ below. omega arith;
      grows = omega arith;
      visits = omega arith;
    }

pub overflow_add-number-2 : goal.overflow_add-number-2
overflow_add-number-2 c =
    let here = at_border c.saturating_sub.result c.requires.place
    c.child_numbers-children.ensures.row c.loop-low.invariant.0 c.if-children.false
    c.saturating_sub.ensures in
    omega (arith, here.less)

pub child_range-range-requires : goal.child_range-range-requires
child_range-range-requires c =
    let here = at_border c.saturating_sub.result c.requires.place
    c.child_numbers-children.ensures.row c.loop-low.invariant.0 c.if-children.false
    c.saturating_sub.ensures in
    here.up _ c.end-end.ensures.offset

pub returns-clause-only : goal.returns-clause-only
returns-clause-only c =
    let here = at_border c.saturating_sub.result c.requires.place
    c.child_numbers-children.ensures.row c.loop-low.invariant.0 c.if-children.false
    c.saturating_sub.ensures in
    let root = root_of c.args.self.now in
    let p = path_at c.args.self.now c.args.parent.now.number in
    let ts = children_of (subterm (Node root) p) in
    let a = c.args.range.start - offset (Node root) p in
    let b = c.args.range.end - offset (Node root) p in
    let s = c.loop-low.invariant.0 in
    let met : c.loop-low.high ≡ c.loop-low.low = omega (arith, s.order, c.loop-low-test.false) in
    let narrowed : IsNarrowed ts a b c.loop-low.low c.loop-low.low =
    subst (λ n. IsNarrowed ts a b c.loop-low.low n) met s in
    only_range_child root c.args.range p _ _ here.path here.count
    (from_start c.requires.place c.requires.from)
    (λ ordered. subst (IsOnlyChoice ts a b) (sym c.saturating_sub.ensures)
    (border ts a b c.loop-low.low ordered narrowed))

pub returns-clause-place : goal.returns-clause-place
returns-clause-place c =
    let here = at_border c.saturating_sub.result c.requires.place
    c.child_numbers-children.ensures.row c.loop-low.invariant.0 c.if-children.false
    c.saturating_sub.ensures in
    record { within = here.within; lies = c.child_range-range.ensures }

pub returns-clause-later : goal.returns-clause-later
returns-clause-later c =
    let here = at_border c.saturating_sub.result c.requires.place
    c.child_numbers-children.ensures.row c.loop-low.invariant.0 c.if-children.false
    c.saturating_sub.ensures in
    here.later
