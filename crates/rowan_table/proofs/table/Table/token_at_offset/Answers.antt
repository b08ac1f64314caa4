use Rattle.std.proofs.Common.{◌≡◌, ℕ, ◌+◌, ◌-◌, ◌≤◌, refl, sym, ◌∙◌, ap, subst, arith}
use Rattle.std.proofs.lemmas.Bool.{eqb-true, eqb-false}
use Rattle.rowan_green.specs.Span.{Span, Holds}
use Rattle.rowan_table.specs.declared.table.Table.{Table}
use Rattle.rowan_table.specs.declared.table.search.Place.{Place}
use Rattle.rowan_table.specs.Cursor.{text_range}
use Rattle.rowan_table.specs.Search.{touching}
use Rattle.rowan_table.specs.TableView.{root_of, path_at, cursor_of, IsPlace, entries_of}
use Rattle.rowan_table.proofs.TouchLemmas.{touching-empty, touching-start, touching-end}
use Rattle.rowan_table.proofs.TouchLemmas.{touching-within}
use Rattle.rowan_table.proofs.TokenLemmas.{stands_at, apart_paths}
use Rattle.rowan_table.proofs.table.Table.token_at_offset.Goals as goal

-- the place starts at the offset, or before it
starts_before : {t : Table} {place : Place} {n x : ℕ} → place.number ≡ n → IsPlace t place
    → Holds (text_range (cursor_of t n)) x → place.range.start ≤ x
starts_before {t} {place} {n} {x} same here holds =
    let lies = subst (λ m. place.range ≡ text_range (cursor_of t m)) same here.lies in
    omega (arith, holds.from_start, ap (λ (r : Span). r.start) lies)

-- the offset of the byte before
byte_before : (start x y z : ℕ) → start ≤ x → (x ≡ start → ⊥) → y ≡ x → z ≡ y - 1 → x ≡ z + 1
byte_before start x y z from apart e f = omega arith

pub returns-then-is_empty-clause-found : goal.returns-then-is_empty-clause-found
returns-then-is_empty-clause-found c =
    let s = c.args.self.now in
    let root = root_of s in
    let top = c.place-top.ensures in
    let there = stands_at (entries_of s) s.complete c.place-top.result.number top.place.within in
    let empty = touching-empty root c.args.offset (path_at s c.place-top.result.number) there.0
    there.1 (omega (
      arith,
      c.is_empty.ensures.0 c.if-is_empty.true,
      ap (λ (r : Span). r.start) top.place.lies,
      ap (λ (r : Span). r.end) top.place.lies,
    )) in
    sym empty ∙ ap (λ n. touching root c.args.offset (path_at s n)) top.number

pub returns-then-eq-clause-found : goal.returns-then-eq-clause-found
returns-then-eq-clause-found c =
    let s = c.args.self.now in
    let root = root_of s in
    let top = c.place-top.ensures in
    let there = stands_at (entries_of s) s.complete c.place-top.result.number top.place.within in
    let here : c.args.offset ≡ c.start.result =
    eqb-true c.args.offset c.start.result (sym c.eq.ensures ∙ c.if-eq.true) in
    let one = touching-start root c.args.offset (path_at s c.place-top.result.number)
    (path_at s c.leaf_over.result) there.0 there.1
    (omega (arith, here, c.start.ensures, ap (λ (r : Span). r.start) top.place.lies))
    c.leaf_over.ensures.leaf in
    sym one ∙ ap (λ n. touching root c.args.offset (path_at s n)) top.number

pub returns-then-eq-2-clause-found : goal.returns-then-eq-2-clause-found
returns-then-eq-2-clause-found c =
    let s = c.args.self.now in
    let root = root_of s in
    let top = c.place-top.ensures in
    let there = stands_at (entries_of s) s.complete c.place-top.result.number top.place.within in
    let here : c.args.offset ≡ c.end.result =
    eqb-true c.args.offset c.end.result (sym c.eq-2.ensures ∙ c.if-eq-2.true) in
    let next : c.args.offset ≡ c.from-last.result + 1 =
    byte_before c.start.result c.args.offset c.from.result c.from-last.result
    (omega (arith, c.start.ensures, starts_before top.number top.place c.requires.offset))
    (eqb-false c.args.offset c.start.result (sym c.eq.ensures ∙ c.if-eq.false)) c.from.ensures
    c.from-last.ensures in
    let one = touching-end root c.args.offset c.from-last.result
    (path_at s c.place-top.result.number) (path_at s c.leaf_over-then-eq-2.result) there.0 there.1
    (omega (arith, here, c.end.ensures, ap (λ (r : Span). r.end) top.place.lies)) next
    c.leaf_over-then-eq-2.ensures.leaf in
    sym one ∙ ap (λ n. touching root c.args.offset (path_at s n)) top.number

pub returns-then-left-right-clause-found : goal.returns-then-left-right-clause-found
returns-then-left-right-clause-found c =
    let s = c.args.self.now in
    let root = root_of s in
    let top = c.place-top.ensures in
    let there = stands_at (entries_of s) s.complete c.place-top.result.number top.place.within in
    let next : c.args.offset ≡ c.args.offset - 1 + 1 =
    byte_before c.start.result c.args.offset c.args.offset (c.args.offset - 1)
    (omega (arith, c.start.ensures, starts_before top.number top.place c.requires.offset))
    (eqb-false c.args.offset c.start.result (sym c.eq.ensures ∙ c.if-eq.false)) refl refl in
    let beside = touching-within root c.args.offset (c.args.offset - 1)
    (path_at s c.place-top.result.number) (path_at s c.leaves_beside-left.result.0)
    (path_at s c.leaves_beside-left.result.1) there.0 there.1 next c.leaves_beside-left.ensures.left
    c.leaves_beside-left.ensures.right in
    sym (beside.one (ap (path_at s) c.if-left-right.true))
    ∙ ap (λ n. touching root c.args.offset (path_at s n)) top.number

pub returns-else-left-right-clause-found : goal.returns-else-left-right-clause-found
returns-else-left-right-clause-found c =
    let s = c.args.self.now in
    let root = root_of s in
    let top = c.place-top.ensures in
    let there = stands_at (entries_of s) s.complete c.place-top.result.number top.place.within in
    let next : c.args.offset ≡ c.args.offset - 1 + 1 =
    byte_before c.start.result c.args.offset c.args.offset (c.args.offset - 1)
    (omega (arith, c.start.ensures, starts_before top.number top.place c.requires.offset))
    (eqb-false c.args.offset c.start.result (sym c.eq.ensures ∙ c.if-eq.false)) refl refl in
    let beside = touching-within root c.args.offset (c.args.offset - 1)
    (path_at s c.place-top.result.number) (path_at s c.leaves_beside-left.result.0)
    (path_at s c.leaves_beside-left.result.1) there.0 there.1 next c.leaves_beside-left.ensures.left
    c.leaves_beside-left.ensures.right in
    sym (beside.two (apart_paths (entries_of s) s.complete c.leaves_beside-left.result.0
    c.leaves_beside-left.result.1 c.leaves_beside-left.ensures.tokens.0.within
    c.leaves_beside-left.ensures.tokens.1.within c.if-left-right.false))
    ∙ ap (λ n. touching root c.args.offset (path_at s n)) top.number
