use Rattle.std.proofs.Common.{◌≡◌, ◌∙◌, ◌++◌, ◌+◌, ◌-◌, ◌<◌, ◌^◌, max, take, ap, subst, arith}
use Rattle.std.specs.Prelude.{OnOk, string_bytes}
use Rattle.rowan_lines.specs.Lines.{line_ends, bytes_since}
use Rattle.rowan_lines.proofs.ShownLemmas.{later-line, range-holds, range-same}
use Rattle.rowan_lines.proofs.rendering.Renderer.push_range.Goals as goal

pub returns-then-last-first-clause-printed : goal.returns-then-last-first-clause-printed
returns-then-last-first-clause-printed c = λ h.
    let text = c.args.self.now.index.now in
    let lines = c.line_column-first.ensures.line ∙ ap (λ n. line_ends (take n text))
    c.start.ensures.offset in
    absurd (later-line text c.args.range c.last_byte.result c.line_column-first.result.line
    c.line_column-last.result.line c.last_byte.ensures.value lines
    c.line_column-last.ensures.line (omega arith) h)

pub returns-clause-printed : goal.returns-clause-printed
returns-clause-printed c = λ h.
    let text = c.args.self.now.index.now in
    let name = c.args.self.now.name.now in
    let line = c.line_column-first.result.line in
    let column = c.line_column-first.result.column in
    let lines = c.line_column-first.ensures.line ∙ ap (λ n. line_ends (take n text))
    c.start.ensures.offset in
    let columns_are = c.line_column-first.ensures.column ∙ ap (λ n. bytes_since 0 (take n text))
    c.start.ensures.offset in
    let lens : c.args.range.start + c.from.result ≡ c.args.range.end = omega
    (arith, c.len.ensures.reach, c.from.ensures) in
    let bound : max (c.args.range.end - 1) c.args.range.start < 2 ^ 32 = omega
    (arith, c.last_byte.ensures.bound, c.last_byte.ensures.value) in
    let small : c.args.range.start < 2 ^ 32 = omega (arith, bound) in
    let little : c.from.result < 2 ^ 33 = omega (arith, bound, lens) in
    let held = range-holds text c.args.range line column c.from.result lines columns_are lens small
    little h in
    subst (λ bs. OnOk c.push_one_line.result (string_bytes c.push_one_line.new.out ≡ string_bytes
    c.args.out.now ++ bs)) (range-same text name c.args.range line column c.from.result lines
    columns_are lens) (c.push_one_line.ensures.printed held.low held.bound held.fits held.cut
    held.front)
