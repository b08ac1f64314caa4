use Rattle.std.proofs.Common.{◌≡◌, ◌++◌, ◌+◌, subst, arith}
use Rattle.std.specs.Prelude.{OnOk, string_bytes}
use Rattle.rowan_lines.proofs.ShownLemmas.{one-shown}
use Rattle.rowan_lines.proofs.rendering.Renderer.push_one_line.Goals as goal

pub returns-clause-printed : goal.returns-clause-printed
returns-clause-printed c = λ low bound fits cut front.
    let end : c.saturating_add-end.result ≡ c.args.place.column + c.args.len = omega
    (arith, bound, c.saturating_add-end.ensures) in
    subst (λ bs. OnOk c.push_line.result (string_bytes c.push_line.new.out ≡ string_bytes
    c.args.out.now ++ bs)) (one-shown c.args.self.now.index.now c.args.self.now.name.now
    c.args.place.line c.args.place.column c.args.len c.line_text-line.result.now
    c.new-parts.result.before.now c.new-parts.result.inside.now c.new-parts.result.after.now
    (string_bytes c.in_ok-excerpt.excerpt.before) (string_bytes c.in_ok-excerpt.excerpt.inside)
    (string_bytes c.in_ok-excerpt.excerpt.after) c.shown_place-place.result.line
    c.shown_place-place.result.column c.saturating_add-end.result c.line_text-line.ensures end
    c.line_text-line.utf8 low fits cut front c.new-parts.ensures.after c.new-parts.ensures.front
    c.shown_place-place.ensures.line c.shown_place-place.ensures.column
    c.in_ok-excerpt.ensures.whole) c.push_line.ensures.put
