use Rattle.std.proofs.Common.{◌++◌, ◌∙◌, ap}
use Rattle.std.specs.Prelude.{string_bytes}
use Rattle.toml_edit.proofs.HoldingLemmas.{holds_between}
use Rattle.toml_edit.proofs.adding.joined.Goals as goal

pub returns : goal.returns
returns c =
    holds_between (string_bytes c.push_str-2.new.self) (string_bytes c.args.start)
    c.args.value.now c.args.line_end.now
    (c.in_ok-push_str-2.ensures.bytes
    ∙ ap (λ bs. bs ++ c.args.line_end.now) c.in_ok-push_str.ensures.bytes)
