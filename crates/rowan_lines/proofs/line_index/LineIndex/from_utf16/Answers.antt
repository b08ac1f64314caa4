use Rattle.std.proofs.Common.{rules, ◌≡◌, ℕ, ◌∙◌, refl, ap, subst, arith}
use Rattle.std.specs.Prelude.{Some, None}
use Rattle.std.specs.Str.{IsUtf8}
use Rattle.std.specs.Str.Pattern.{GetsRange}
use Rattle.rowan_lines.specs.declared.line_index.LineColumn.{LineColumn}
use Rattle.rowan_lines.specs.Lines.{line_starts, IsInLine}
use Rattle.rowan_lines.proofs.GotLines.{got-none, got-some, none-is-some, false-is-true, some-same}
use Rattle.rowan_lines.proofs.LineLemmas.{place-line}
use Rattle.rowan_lines.proofs.Utf16Ends.{found-end, found-counted}
use Rattle.rowan_lines.proofs.line_index.LineIndex.from_utf16.Goals as goal

abbrev place-of : ℕ → ℕ → LineColumn
place-of line column = record { line = line; column = column }

same-place : (line column : ℕ) (other : LineColumn) → line ≡ other.line → column ≡ other.column
    → Some (place-of line column) ≡ Some other
same-place line column other lines columns_are =
    ap (λ n. Some (place-of n column)) lines ∙ ap (λ n. Some (place-of other.line n)) columns_are

pub returns-in_err-start-clause-all : goal.returns-in_err-start-clause-all
returns-in_err-start-clause-all c = λ other h less.
    let there = place-line c.args.self.now (line_starts c.args.self.now) h.up_to.offset other refl
    h.up_to.at in
    let past = c.in_err-start.ensures.none refl in
    absurd (omega (arith, there, past, h.line))

pub returns-in_err-line-clause-all : goal.returns-in_err-line-clause-all
returns-in_err-line-clause-all c = λ other h less.
    let view : c.self.inside.text.now ≡ c.args.self.now = search rules in
    let got = subst (λ text. GetsRange text c.in_ok-start.start c.in_ok-start.end None) view
    c.in_err-line.ensures.cases in
    absurd (got-none c.args.self.now c.args.place.line c.in_ok-start.start c.in_ok-start.end
    (subst IsUtf8 view c.self.invariant.1) c.in_ok-start.ensures.start c.in_ok-start.ensures.end got)

pub returns-in_err-utf16_end-clause-all : goal.returns-in_err-utf16_end-clause-all
returns-in_err-utf16_end-clause-all c = λ other h less.
    let view : c.self.inside.text.now ≡ c.args.self.now = search rules in
    let got = subst (λ text. GetsRange text c.in_ok-start.start c.in_ok-start.end (Some
    c.in_ok-line.line)) view c.in_ok-line.ensures.cases in
    let whole = got-some c.args.self.now c.args.place.line c.in_ok-start.start c.in_ok-start.end
    c.in_ok-line.line c.in_ok-start.ensures.start c.in_ok-start.ensures.end got in
    absurd (none-is-some other.column (found-end c.args.self.now c.in_ok-line.line.now other
    c.args.place None (subst IsUtf8 view c.self.invariant.1) whole h c.in_err-utf16_end.ensures.all))

pub returns-in_err-_before-clause-all : goal.returns-in_err-_before-clause-all
returns-in_err-_before-clause-all c = λ other h less.
    let view : c.self.inside.text.now ≡ c.args.self.now = search rules in
    let got = subst (λ text. GetsRange text c.in_ok-start.start c.in_ok-start.end (Some
    c.in_ok-line.line)) view c.in_ok-line.ensures.cases in
    let whole = got-some c.args.self.now c.args.place.line c.in_ok-start.start c.in_ok-start.end
    c.in_ok-line.line c.in_ok-start.ensures.start c.in_ok-start.ensures.end got in
    let column = some-same c.in_ok-utf16_end.field-0 other.column (found-end c.args.self.now
    c.in_ok-line.line.now other c.args.place (Some c.in_ok-utf16_end.field-0)
    (subst IsUtf8 view c.self.invariant.1) whole h c.in_ok-utf16_end.ensures.all) in
    let at : IsInLine c.args.self.now h.up_to.offset
    (record { line = c.args.place.line; column = c.in_ok-utf16_end.field-0 }) = record {
      within = h.up_to.at.within;
      line = h.line ∙ h.up_to.at.line;
      column = column ∙ h.up_to.at.column;
    } in
    absurd (false-is-true (c.in_err-_before.ensures.all h.up_to.offset at h.up_to.border
    (omega (arith, less, h.up_to.at.within))))

pub returns-clause-there : goal.returns-clause-there
returns-clause-there c =
    let view : c.self.inside.text.now ≡ c.args.self.now = search rules in
    let got = subst (λ text. GetsRange text c.in_ok-start.start c.in_ok-start.end (Some
    c.in_ok-line.line)) view c.in_ok-line.ensures.cases in
    let whole = got-some c.args.self.now c.args.place.line c.in_ok-start.start c.in_ok-start.end
    c.in_ok-line.line c.in_ok-start.ensures.start c.in_ok-start.ensures.end got in
    found-counted c.args.self.now c.in_ok-line.line.now c.in_ok-_before._before.now c.args.place
    (record { line = c.args.place.line; column = c.in_ok-utf16_end.field-0 })
    (subst IsUtf8 view c.self.invariant.1) whole refl c.in_ok-utf16_end.ensures.there
    c.in_ok-_before.ensures.there

pub returns-clause-all : goal.returns-clause-all
returns-clause-all c = λ other h less.
    let view : c.self.inside.text.now ≡ c.args.self.now = search rules in
    let got = subst (λ text. GetsRange text c.in_ok-start.start c.in_ok-start.end (Some
    c.in_ok-line.line)) view c.in_ok-line.ensures.cases in
    let whole = got-some c.args.self.now c.args.place.line c.in_ok-start.start c.in_ok-start.end
    c.in_ok-line.line c.in_ok-start.ensures.start c.in_ok-start.ensures.end got in
    let column = some-same c.in_ok-utf16_end.field-0 other.column (found-end c.args.self.now
    c.in_ok-line.line.now other c.args.place (Some c.in_ok-utf16_end.field-0)
    (subst IsUtf8 view c.self.invariant.1) whole h c.in_ok-utf16_end.ensures.all) in
    same-place c.args.place.line c.in_ok-utf16_end.field-0 other h.line column
