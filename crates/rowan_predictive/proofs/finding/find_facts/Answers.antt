use Rattle.std.proofs.Common.{refl, subst, sym}
use Rattle.rowan_predictive.specs.Causes.{AreSo}
use Rattle.rowan_predictive.proofs.CauseLemmas.{none-so, add-nothing}
use Rattle.rowan_predictive.proofs.finding.find_facts.Goals as goal

pub loop-rule-init : goal.loop-rule-init
loop-rule-init c = subst (λ xs. AreSo c.args.rules.now xs) (sym c.in_ok-facts.ensures.items) (none-so c.args.rules.now)

pub loop-rule-preserved : goal.loop-rule-preserved
loop-rule-preserved c =
    subst (λ xs. AreSo c.args.rules.now xs) (sym c.in_ok-push.ensures.items)
    (add-nothing c.args.rules.now c.loop-rule.facts.items _ refl refl refl c.loop-rule.invariant)
