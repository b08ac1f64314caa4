use Rattle.std.specs.List.{AllByRecursion}
use Rattle.toml_edit_plan.specs.Splices.{Takes}
use Rattle.toml_edit_plan.proofs.lists.dropped.Given as goal

abbrev pub invariant-loop-run : goal.invariant-loop-run
invariant-loop-run l = AllByRecursion Takes l.splices.items
