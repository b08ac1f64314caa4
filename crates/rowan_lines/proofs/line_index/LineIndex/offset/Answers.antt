use Rattle.std.proofs.Common.{◌≡◌, length, take, sym, ◌∙◌, ap, Some, arith}
use Rattle.rowan_lines.specs.Lines.{line_ends, bytes_since, line_starts}
use Rattle.rowan_lines.proofs.LineLemmas.{place-line, place-sum}
use Rattle.rowan_lines.proofs.line_index.LineIndex.offset.Goals as goal
use Rattle.rowan_lines.proofs.line_index.LineIndex.offset.Goals.{then-found-place-via-then-found-place, then-found-place-via-else-found-place+then-found-place-2}

pub returns-in_err-start-clause-all : goal.returns-in_err-start-clause-all
returns-in_err-start-clause-all c = λ o h less.
    let view = c.self.view_is in
    let value = c.deref.ensures.value in
    let kept = c.self.invariant.0 in
    let same : c.deref.result.now ≡ line_starts c.args.self.now = cc in
    let there = place-line c.args.self.now c.deref.result.now o c.args.place same h in
    absurd (omega (arith, there, c.in_err-start.ensures.lookup))

pub returns-then-offset-clause-all : goal.returns-then-offset-clause-all
returns-then-offset-clause-all c = λ o h less.
    let view = c.self.view_is in
    let value = c.deref.ensures.value in
    let kept = c.self.invariant.0 in
    let same : c.deref.result.now ≡ line_starts c.args.self.now = cc in
    let sum = place-sum c.args.self.now c.deref.result.now o c.in_ok-start.start.now c.args.place
    same h c.in_ok-start.ensures.lookup.1 in
    absurd (omega (
      arith,
      sum,
      h.within,
      less,
      c.saturating_add.ensures,
      c.min-offset.ensures,
      ap
          length view,
      c.if-offset.true,
    ))

pub returns-then-found-place-clause-all : goal.returns-then-found-place-clause-all
returns-then-found-place-clause-all c = λ o h less.
    let view = c.self.view_is in
    let value = c.deref.ensures.value in
    let kept = c.self.invariant.0 in
    let same : c.deref.result.now ≡ line_starts c.args.self.now = cc in
    let sum = place-sum c.args.self.now c.deref.result.now o c.in_ok-start.start.now c.args.place
    same h c.in_ok-start.ensures.lookup.1 in
    let at : c.from-offset.result ≡ o = omega (
      arith,
      sum,
      h.within,
      less,
      c.saturating_add.ensures,
      c.min-offset.ensures,
      ap length view,
      c.from-offset.ensures,
      c.if-offset.false,
    ) in
    let line : c.line_column-found.result.line ≡ c.args.place.line =
    c.line_column-found.ensures.line ∙ ap (λ n. line_ends (take n c.args.self.now)) at ∙ sym h.line
    in
    let column : c.line_column-found.result.column ≡ c.args.place.column =
    c.line_column-found.ensures.column ∙ ap (λ n. bytes_since 0 (take n c.args.self.now)) at ∙ sym
    h.column in
    absurd (elim c.then-found-place.branch [
      | then-found-place-via-then-found-place w ↦ omega (arith, w.if-found-place.true, line)
      | then-found-place-via-else-found-place+then-found-place-2 w ↦ omega
          (arith, w.if-found-place-2.true, column)
    ])

pub returns-clause-all : goal.returns-clause-all
returns-clause-all c = λ o h less.
    let view = c.self.view_is in
    let value = c.deref.ensures.value in
    let kept = c.self.invariant.0 in
    let same : c.deref.result.now ≡ line_starts c.args.self.now = cc in
    let sum = place-sum c.args.self.now c.deref.result.now o c.in_ok-start.start.now c.args.place
    same h c.in_ok-start.ensures.lookup.1 in
    let at : c.from-offset.result ≡ o = omega (
      arith,
      sum,
      h.within,
      less,
      c.saturating_add.ensures,
      c.min-offset.ensures,
      ap length view,
      c.from-offset.ensures,
      c.if-offset.false,
    ) in
    ap (λ n. Some n) at
