use Rattle.std.proofs.Common.{sym, subst}
use Rattle.toml_edit.proofs.HoldingLemmas.{holds_value}
use Rattle.toml_edit_plan.specs.Written.{IsTextOf}
use Rattle.toml_edit.proofs.adding.new_key.Goals as goal

pub returns : goal.returns
returns c =
    holds_value c.args.value c.as_str.result.now c.placed.result
    (subst (λ bs. IsTextOf c.args.value bs) (sym c.as_str.ensures.value) c.in_ok-text.ensures)
    c.placed.ensures
