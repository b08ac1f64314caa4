use Rattle.rowan_predictive.specs.Causes.{AreSo}
use Rattle.rowan_predictive.proofs.finding.find_facts.Given as goal

abbrev pub invariant-loop-rule : goal.invariant-loop-rule
invariant-loop-rule l = AreSo l.rules l.facts.items
