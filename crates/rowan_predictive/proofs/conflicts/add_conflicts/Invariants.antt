use Rattle.std.proofs.Common.{◌≡◌, ℕ, ◌<◌, [], Some, slice_get}
use Rattle.std.specs.List.{All}
use Rattle.rowan_predictive.specs.declared.rules.Entry.{Entry}
use Rattle.rowan_predictive.specs.Causes.{IsConflict}
use Rattle.rowan_predictive.specs.Predictive.{IsFit}
use Rattle.rowan_predictive.specs.View.{rules_of}
use Rattle.rowan_predictive.proofs.conflicts.add_conflicts.Given as goal

abbrev pub invariant-loop-number : goal.invariant-loop-number
invariant-loop-number l = (l.found.items ≡ []
    → (k : ℕ) (entry : Entry) → k < l.number → slice_get l.entries k ≡ Some entry → IsFit l.entries k entry.rule)
    × (All (IsConflict (rules_of l.entries)) l.fn.found.items → All (IsConflict (rules_of l.entries)) l.found.items)
