use Rattle.std.proofs.Common.{◌≡◌, ℕ, ◌<◌, Some, slice_get}
use Rattle.rowan_predictive.specs.declared.rules.Entry.{Entry}
use Rattle.rowan_predictive.specs.Predictive.{IsFit}
use Rattle.rowan_predictive.proofs.testing.is_predictive.Given as goal

abbrev pub invariant-loop-i : goal.invariant-loop-i
invariant-loop-i l = (k : ℕ) (entry : Entry) → k < l.i → slice_get l.entries k ≡ Some entry → IsFit l.entries k entry.rule
