use Rattle.std.proofs.Common.{rules, ◌≡◌, ◌-◌, subst, sym, arith}
use Rattle.std.specs.Str.{IsCharBoundary}
use Rattle.rowan_lines.specs.Lines.{IsInLine}
use Rattle.rowan_lines.proofs.Columns.{got-line}
use Rattle.rowan_lines.proofs.line_index.LineIndex.text_before.Goals as goal

pub returns-clause-all : goal.returns-clause-all
returns-clause-all c = λ o at there less.
    let end : c.from-end.result ≡ c.in_ok-offset.field-0 = search rules in
    let place : IsInLine c.args.self.now c.in_ok-offset.field-0 c.args.place =
    c.in_ok-offset.ensures.there in
    let view : c.self.inside.text.now ≡ c.args.self.now = search rules in
    let line : IsInLine c.self.inside.text.now c.from-end.result c.args.place = subst
    (λ n. IsInLine c.self.inside.text.now n c.args.place) (sym end)
    (subst (λ text. IsInLine text c.in_ok-offset.field-0 c.args.place) (sym view) place) in
    let border : IsCharBoundary c.self.inside.text.now c.from-end.result = search rules in
    let start : c.saturating_sub.result ≡ c.from-end.result - c.args.place.column = omega
    (arith, c.saturating_sub.ensures) in
    got-line c.self.inside.text.now c.from-end.result c.saturating_sub.result c.args.place
    c.get.result c.self.invariant.1 line border start c.get.ensures.cases
