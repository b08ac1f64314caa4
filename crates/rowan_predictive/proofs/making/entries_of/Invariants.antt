use Rattle.std.proofs.Common.{◌≡◌, ◌++◌, drop}
use Rattle.rowan_predictive.specs.Causes.{AreKnown}
use Rattle.rowan_predictive.specs.View.{rules_of}
use Rattle.rowan_predictive.proofs.making.entries_of.Given as goal

abbrev pub invariant-loop-rule : goal.invariant-loop-rule
invariant-loop-rule l = record {
  rules : rules_of l.entries.items ++ drop l.rule-index l.rules ≡ l.rules;
  known : AreKnown l.rules l.entries.items;
}
