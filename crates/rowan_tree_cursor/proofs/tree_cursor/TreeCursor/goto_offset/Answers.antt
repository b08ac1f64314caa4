use Rattle.std.proofs.Common.{◌≡◌, ◌+◌, ◌≤◌, refl, ◌∙◌, ap, arith, rules}
use Rattle.rowan_green.specs.Span.{Span}
use Rattle.rowan_table.proofs.CoverLemmas.{byte_at}
use Rattle.rowan_tree_cursor.proofs.TreeCursorSearchLemmas.{byte-absent, byte-covered}
use Rattle.rowan_tree_cursor.proofs.tree_cursor.TreeCursor.goto_offset.Goals as goal

pub returns-then-le-clause-ok : goal.returns-then-le-clause-ok
returns-then-le-clause-ok c =
    let range = c.text_range-range.ensures in
    let past : c.end.result ≤ c.args.offset = search rules in (
      refl,
      byte-absent c.args.offset c.args.self.now (λ from to. omega (
        arith,
        to,
        ap (λ (r : Span). r.end) range,
        c.end.ensures.offset,
        past,
      )),
    )

pub returns-then-not-contains_range-clause-ok : goal.returns-then-not-contains_range-clause-ok
returns-then-not-contains_range-clause-ok c =
    let range = c.text_range-range.ensures in
    let byte = c.at-byte.ensures in (
      refl,
      byte-absent c.args.offset c.args.self.now (λ from to.
          (let yes = c.contains_range.ensures.contains.1 (
            omega (arith, from, ap (λ (r : Span). r.start) range, ap (λ (r : Span). r.start) byte),
            omega (
              arith,
              to,
              ap (λ (r : Span). r.end) range,
              ap (λ (r : Span). r.end) byte,
              c.from.ensures,
            ),
          ) in
          absurd (cc (yes, c.if-not-contains_range.true)))),
    )

pub returns-clause-ok : goal.returns-clause-ok
returns-clause-ok c =
    let range = c.text_range-range.ensures in
    let byte = c.at-byte.ensures in
    let has = c.contains_range.ensures.contains.0 c.if-not-contains_range.false in
    let one : c.at-byte.result ≡ byte_at c.args.offset = byte
    ∙ ap (λ n. record { start = c.args.offset; end = c.args.offset + n }) c.from.ensures in
    byte-covered c.args.offset c.args.self.now c.goto_covering_element.new.self c.at-byte.result
    one
    (omega (arith, has.0, ap (λ (r : Span). r.start) range, ap (λ (r : Span). r.start) byte))
    (omega (
      arith,
      has.1,
      ap (λ (r : Span). r.end) range,
      ap (λ (r : Span). r.end) byte,
      c.from.ensures,
    ))
    c.in_ok-goto_covering_element.ensures.ok
