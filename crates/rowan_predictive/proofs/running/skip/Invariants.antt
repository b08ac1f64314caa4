use Rattle.std.proofs.Common.{◌≡◌, ◌-◌, ◌++◌}
use Rattle.rowan_predictive.specs.Whole.{skipped}
use Rattle.rowan_predictive.proofs.running.skip.Given as goal

abbrev pub invariant-loop-i : goal.invariant-loop-i
invariant-loop-i l = l.actions.items ++ skipped (l.count - l._i) ≡ l.fn.actions.items ++ skipped l.count
