use Rattle.std.proofs.Common.{◌≡◌, length, min, get_or, sym, ◌∙◌, ap, arith}
use Rattle.rowan_lines.specs.Lines.{line_starts}
use Rattle.rowan_lines.proofs.LineLemmas.{line-found, column-found}
use Rattle.rowan_lines.proofs.line_index.LineIndex.line_column.Goals as goal

pub returns-in-Some-clause-line : goal.returns-in-Some-clause-line
returns-in-Some-clause-line c =
    let view = c.self.view_is in
    let value = c.as_slice.ensures.value in
    let kept = c.self.invariant.0 in
    let same : c.as_slice.result.now ≡ line_starts c.args.self.now = cc in
    let clamped : c.min-offset.result ≡ min c.args.offset (length c.args.self.now) = omega
    (arith, c.min-offset.ensures, c.from.ensures, ap length view) in
    line-found c.args.self.now c.as_slice.result.now c.args.offset c.min-offset.result
    c.line_at-line.result same clamped c.line_at-line.ensures

pub returns-in-Some-clause-column : goal.returns-in-Some-clause-column
returns-in-Some-clause-column c =
    let view = c.self.view_is in
    let value = c.as_slice.ensures.value in
    let kept = c.self.invariant.0 in
    let same : c.as_slice.result.now ≡ line_starts c.args.self.now = cc in
    let clamped : c.min-offset.result ≡ min c.args.offset (length c.args.self.now) = omega
    (arith, c.min-offset.ensures, c.from.ensures, ap length view) in
    let at = c.in-Some.ensures.lookup in
    let start : c.in-Some.start.now ≡ get_or c.as_slice.result.now c.line_at-line.result
    c.in-Some.start.now =
    at.1 ∙ ap (λ ss. get_or ss c.line_at-line.result c.in-Some.start.now)
    (c.deref.ensures.value ∙ sym c.as_slice.ensures.value) in
    column-found c.args.self.now c.as_slice.result.now c.args.offset c.min-offset.result
    c.line_at-line.result c.in-Some.start.now c.saturating_sub-column.result same clamped
    c.line_at-line.ensures start (omega (arith, c.saturating_sub-column.ensures))
