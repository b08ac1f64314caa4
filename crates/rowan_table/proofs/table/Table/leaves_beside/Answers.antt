use Rattle.std.proofs.Common.{◌≡◌, ℕ, ◌+◌, ◌-◌, ◌<◌, ◌≤◌, ◌∙◌, ap, subst, arith}
use Rattle.rowan_green.specs.Span.{Span}
use Rattle.rowan_table.specs.declared.table.Table.{Table}
use Rattle.rowan_table.specs.declared.table.search.Place.{Place}
use Rattle.rowan_table.specs.Search.{Covers, IsLeafOver}
use Rattle.rowan_table.specs.TableView.{root_of, path_at, IsPlace, entries_of}
use Rattle.rowan_table.proofs.CoverLemmas.{HasSpan, two_bytes_at, covers-has_span, leaf-below}
use Rattle.rowan_table.proofs.SearchLemmas.{place_limit}
use Rattle.rowan_table.proofs.TokenLemmas.{stands_at}
use Rattle.rowan_table.proofs.table.Table.leaves_beside.Goals as goal

-- the place has the byte at x and the one behind it
record HasBoth (t : Table) (top both : Place) (x : ℕ) : Type 0 where
  pub span : HasSpan (root_of t) (two_bytes_at x) (path_at t top.number) (path_at t both.number)
  pub from : both.range.start ≤ x
  pub to : x + 2 ≤ both.range.end

-- the place that covers the bytes beside an offset has them; y is the offset
has_both : {t : Table} {top both : Place} {span : Span} {offset x y n : ℕ} → IsPlace t top
    → top.range.start < offset → offset < top.range.end → y ≡ offset → x ≡ y - 1 → n ≡ 2
    → span ≡ record { start = x; end = x + n }
    → IsPlace t both → Covers (root_of t) span (path_at t top.number) (path_at t both.number)
    → HasBoth t top both x
has_both {t} {top} {both} {span} {offset} {x} {y} {n} here from to same before two is there covers =
    let root = root_of t in
    let p = path_at t top.number in
    let q = path_at t both.number in
    let u = stands_at (entries_of t) t.complete top.number here.within in
    let own : span ≡ two_bytes_at x = is ∙ ap (λ m. record { start = x; end = x + m }) two in
    let start = ap (λ (r : Span). r.start) here.lies in
    let end = ap (λ (r : Span). r.end) here.lies in
    let has = covers-has_span root (two_bytes_at x) p q u.0 u.1
    (omega (arith, start, from, same, before), omega (arith, end, from, to, same, before))
    (subst (λ r. Covers root r p q) own covers) in
    record {
      span = has;
      from = omega (arith, has.lies.0, ap (λ (r : Span). r.start) there.lies);
      to = omega (arith, has.lies.1, ap (λ (r : Span). r.end) there.lies);
    }

pub at-beside-requires : goal.at-beside-requires
at-beside-requires c =
    omega (
      arith,
      place_limit c.requires.place,
      c.requires.from,
      c.requires.to,
      c.from.ensures,
      c.from-before.ensures,
      c.from-2.ensures,
    )

pub leaf_over-requires-clause-from : goal.leaf_over-requires-clause-from
leaf_over-requires-clause-from c =
    let both = has_both c.requires.place c.requires.from c.requires.to c.from.ensures
    c.from-before.ensures c.from-2.ensures c.at-beside.ensures c.covering-both.ensures.place
    c.covering-both.ensures.covers in
    both.from

pub leaf_over-requires-clause-to : goal.leaf_over-requires-clause-to
leaf_over-requires-clause-to c =
    let both = has_both c.requires.place c.requires.from c.requires.to c.from.ensures
    c.from-before.ensures c.from-2.ensures c.at-beside.ensures c.covering-both.ensures.place
    c.covering-both.ensures.covers in
    omega (arith, both.to)

pub leaf_over-requires-2-clause-from : goal.leaf_over-requires-2-clause-from
leaf_over-requires-2-clause-from c =
    let both = has_both c.requires.place c.requires.from c.requires.to c.from.ensures
    c.from-before.ensures c.from-2.ensures c.at-beside.ensures c.covering-both.ensures.place
    c.covering-both.ensures.covers in
    omega (arith, both.from, c.requires.from, c.from.ensures, c.from-before.ensures)

pub leaf_over-requires-2-clause-to : goal.leaf_over-requires-2-clause-to
leaf_over-requires-2-clause-to c =
    let both = has_both c.requires.place c.requires.from c.requires.to c.from.ensures
    c.from-before.ensures c.from-2.ensures c.at-beside.ensures c.covering-both.ensures.place
    c.covering-both.ensures.covers in
    omega (arith, both.to, c.requires.from, c.from.ensures, c.from-before.ensures)

pub returns-clause-left : goal.returns-clause-left
returns-clause-left c =
    let both = has_both c.requires.place c.requires.from c.requires.to c.from.ensures
    c.from-before.ensures c.from-2.ensures c.at-beside.ensures c.covering-both.ensures.place
    c.covering-both.ensures.covers in
    let root = root_of c.args.self.now in
    let p = path_at c.args.self.now c.args.top.now.number in
    let r = path_at c.args.self.now c.leaf_over.result in
    let same : c.from-before.result ≡ c.args.offset - 1 = c.from-before.ensures
    ∙ ap (λ n. n - 1) c.from.ensures in
    subst (λ x. IsLeafOver root x p r) same (leaf-below root _ c.from-before.result p _ r both.span
    c.leaf_over.ensures.leaf)

pub returns-clause-right : goal.returns-clause-right
returns-clause-right c =
    let both = has_both c.requires.place c.requires.from c.requires.to c.from.ensures
    c.from-before.ensures c.from-2.ensures c.at-beside.ensures c.covering-both.ensures.place
    c.covering-both.ensures.covers in
    let root = root_of c.args.self.now in
    let p = path_at c.args.self.now c.args.top.now.number in
    leaf-below root _ c.args.offset p _ (path_at c.args.self.now c.leaf_over-2.result) both.span
    c.leaf_over-2.ensures.leaf
