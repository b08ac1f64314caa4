use Rattle.std.proofs.Common.{◌∙◌, ap, subst}
use Rattle.std.specs.Prelude.{List}
use Rattle.rowan_predictive.specs.declared.rules.Rule.{Rule}
use Rattle.rowan_predictive.specs.Causes.{WhyNoGrammar}
use Rattle.rowan_predictive.specs.View.{rules_of}
use Rattle.rowan_predictive.proofs.CauseLemmas.{some-of, alone}
use Rattle.rowan_predictive.proofs.conflicts.conflicts_of.Goals as goal

pub returns-in-Err-clause-causes : goal.returns-in-Err-clause-causes
returns-in-Err-clause-causes c =
    alone c.args.rules.now c.new-found.result.items c.push.new.self.items c.in-Err.error c.new-found.ensures.items
    c.in_ok-push.ensures.items c.in-Err.ensures

pub returns-in-Some-clause-causes : goal.returns-in-Some-clause-causes
returns-in-Some-clause-causes c =
    let cause = some-of _ c.in_ok-error.field-0 c.in-Some.error c.in-Some.is c.in_ok-error.ensures in
    let rules = ap rules_of c.as_slice-entries.ensures.value ∙ c.in_ok-entries.ensures.rules in
    alone c.args.rules.now c.new-found.result.items c.push-in-Some.new.self.items c.in-Some.error c.new-found.ensures.items
    c.in_ok-push-2.ensures.items
    (subst (λ (rs : List Rule). WhyNoGrammar rs c.in-Some.error) rules cause)
