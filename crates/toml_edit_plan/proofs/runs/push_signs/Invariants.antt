use Rattle.std.proofs.Common.{◌≡◌}
use Rattle.toml_edit_plan.specs.Runs.{nodes_in, others_in}
use Rattle.toml_edit_plan.proofs.runs.push_signs.Given as goal

abbrev pub invariant-loop-sign : goal.invariant-loop-sign
invariant-loop-sign l =
    (nodes_in l.new.items ≡ nodes_in l.fn.new.items)
    × (others_in l.new.items ≡ others_in l.fn.new.items)
