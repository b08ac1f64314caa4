use Rattle.std.specs.List.{AllByRecursion}
use Rattle.toml_edit_plan.specs.Splices.{Takes}
use Rattle.toml_edit.proofs.removing.dropped_splices.Given as goal

abbrev pub invariant-loop-end : goal.invariant-loop-end
invariant-loop-end l = AllByRecursion Takes l.splices.items
