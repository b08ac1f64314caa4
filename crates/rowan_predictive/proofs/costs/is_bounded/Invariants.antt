use Rattle.std.proofs.Common.{◌≡◌, ℕ, ◌<◌, Some, slice_get}
use Rattle.rowan_predictive.specs.declared.rules.Entry.{Entry}
use Rattle.rowan_predictive.specs.Costs.{IsBoundedAt}
use Rattle.rowan_predictive.proofs.costs.is_bounded.Given as goal

abbrev pub invariant-loop-i : goal.invariant-loop-i
invariant-loop-i l = (k : ℕ) (entry : Entry) → k < l.i → slice_get l.entries k ≡ Some entry → IsBoundedAt l.entries l.per_token k entry.rule
