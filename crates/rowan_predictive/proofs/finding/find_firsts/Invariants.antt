use Rattle.rowan_predictive.specs.Causes.{AreSo}
use Rattle.rowan_predictive.proofs.finding.find_firsts.Given as goal

abbrev pub invariant-loop-look : goal.invariant-loop-look
invariant-loop-look l = AreSo l.rules l.facts.items
