use Rattle.std.specs.List.{AllByRecursion}
use Rattle.toml_edit.specs.Edits.{PutsThis}
use Rattle.toml_edit.proofs.replacing.keys_at.Given as goal

abbrev pub invariant-loop-range : goal.invariant-loop-range
invariant-loop-range l = AllByRecursion (PutsThis l.new) l.splices.items
