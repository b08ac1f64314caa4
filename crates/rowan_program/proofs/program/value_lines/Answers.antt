use Rattle.std.proofs.Common.{◌++◌, Some, subst, ◌∙◌, ap}
use Rattle.std.specs.Prelude.{string_bytes}
use Rattle.rowan.specs.Ast.{YieldsWrappers}
use Rattle.rowan_program.specs.Program.{value_line}
use Rattle.rowan_sexp.specs.Wrappers.{node_in}
use Rattle.rowan_program.proofs.ValueLines.{lines-next, lines-end}
use Rattle.rowan_sexp.proofs.EvalLemmas.{is_sexp_at}
use Rattle.rowan_program.proofs.program.value_lines.Goals as goal

pub loop-sexp-preserved-in_ok-push_value_line : goal.loop-sexp-preserved-in_ok-push_value_line
loop-sexp-preserved-in_ok-push_value_line c =
    let rest = c.loop-sexp.sexp-iterator in
    let after = c.next.new.self in
    let lines = string_bytes c.loop-sexp.lines in
    let came = subst (λ r. YieldsWrappers is_sexp_at node_in rest (Some r) after) c.in_ok-sexp.was
    c.in-Some.ensures.steps in
    lines-next c.args.root.now rest after c.in_ok-sexp.field-0 lines
    (string_bytes c.push_value_line.new.lines) c.loop-sexp.invariant came
    (c.in_ok-push_value_line.ensures ∙ ap (λ v. lines ++ value_line v) c.in_ok-eval.ensures.ok)

pub loop-sexp-preserved : goal.loop-sexp-preserved
loop-sexp-preserved c =
    let rest = c.loop-sexp.sexp-iterator in
    let after = c.next.new.self in
    let lines = string_bytes c.loop-sexp.lines in
    let came = subst (λ r. YieldsWrappers is_sexp_at node_in rest (Some r) after) c.in_ok-sexp.was
    c.in-Some.ensures.steps in
    lines-next c.args.root.now rest after c.in_ok-sexp.field-0 lines
    (string_bytes c.push_value_line.new.lines) c.loop-sexp.invariant came
    (c.in_ok-push_value_line.ensures ∙ ap (λ v. lines ++ value_line v) c.in_ok-eval.ensures.ok)

pub returns-clause-ok : goal.returns-clause-ok
returns-clause-ok c =
    lines-end c.args.root.now c.loop-sexp.sexp-iterator c.next.new.self
    (string_bytes c.loop-sexp.lines) c.loop-sexp.invariant c.in-None.ensures.steps
