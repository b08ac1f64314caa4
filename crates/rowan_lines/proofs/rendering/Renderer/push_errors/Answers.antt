use Rattle.std.proofs.Common.{◌∙◌, ◌++◌, ap, rules}
use Rattle.std.specs.Prelude.{string_bytes}
use Rattle.rowan_lines.specs.Printed.{diagnostic, errors_text}
use Rattle.rowan_lines.specs.declared.rendering.Severity.TheVariants.{Error}
use Rattle.rowan_lines.proofs.ErrorLemmas.{errors-step}
use Rattle.rowan_lines.proofs.rendering.Renderer.push_errors.Goals as goal

pub errors-preserved : goal.errors-preserved
errors-preserved c = λ all.
    let text = c.args.self.now.index.now in
    let name = c.args.self.now.name.now in
    let error = c.in-Some.error.now in
    errors-step text name (string_bytes c.errors.out) (string_bytes c.diagnostic.new.out)
    (string_bytes c.args.out.now ++ errors_text name text c.args.errors.now) error c.errors.rest.now
    c.in-Some.others.now (search rules) (c.errors.invariant all) (λ short.
    c.in_ok-diagnostic.ensures.printed short ∙ ap (λ message. string_bytes c.errors.out
    ++ diagnostic Error message name text error.range) (search rules))
