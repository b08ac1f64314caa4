use Rattle.rowan_changes.proofs.ChangeLemmas.{AreBegun}
use Rattle.rowan_changes.proofs.changes.ends_of.Given as goal

abbrev pub invariant-loop-change : goal.invariant-loop-change
invariant-loop-change l = AreBegun l.list l.change-index l.ends.items l.old_end l.new_end
