use Rattle.std.proofs.Common.{◌≡◌, ◌∙◌, length, ap, arith}
use Rattle.rowan_lines.specs.Lines.{line_starts}
use Rattle.rowan_lines.proofs.LineLemmas.{start-found, start-none}
use Rattle.rowan_lines.proofs.line_index.LineIndex.start.Goals as goal

pub returns-in-Some : goal.returns-in-Some
returns-in-Some c =
    let view = c.self.view_is in
    let value = c.deref.ensures.value in
    let kept = c.self.invariant.0 in
    let same : c.deref.result.now ≡ line_starts c.args.self.now = cc in
    let at = c.in-Some.ensures.lookup in
    start-found c.args.self.now c.deref.result.now c.args.line c.in-Some.start.now same
    (omega (arith, at.0)) at.1

pub returns-in-None : goal.returns-in-None
returns-in-None c =
    let view = c.self.view_is in
    let value = c.deref.ensures.value in
    let kept = c.self.invariant.0 in
    let same : c.deref.result.now ≡ line_starts c.args.self.now = cc in
    let size : length c.self.inside.text.now ≡ length c.args.self.now = ap length view in
    size ∙ start-none c.args.self.now c.deref.result.now c.args.line same
    (omega (arith, c.in-None.ensures.lookup))
