use Rattle.std.proofs.Common.{rules, ◌≡◌, ◌∙◌, ap, subst}
use Rattle.std.specs.Str.{IsUtf8}
use Rattle.std.specs.Str.Pattern.{GetsRange}
use Rattle.rowan_lines.specs.Lines.{without_end}
use Rattle.rowan_lines.proofs.GotLines.{got-whole}
use Rattle.rowan_lines.proofs.line_index.LineIndex.line_text.Goals as goal

pub returns : goal.returns
returns c =
    let view : c.self.inside.text.now ≡ c.args.self.now = search rules in
    let utf8 = subst IsUtf8 view c.self.invariant.1 in
    let got = subst (λ text. GetsRange text c.in-Some.start c.in-Some.end c.get.result) view
    c.get.ensures.cases in
    c.without_end.ensures ∙ ap without_end (got-whole c.args.self.now c.args.line c.in-Some.start
    c.in-Some.end c.get.result _ c.unwrap_or.result utf8 c.in-Some.ensures.start
    c.in-Some.ensures.end got c.unwrap_or.ensures)
