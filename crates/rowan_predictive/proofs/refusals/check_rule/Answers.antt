use Rattle.std.proofs.Common.{◌∙◌, ap}
use Rattle.std.specs.Prelude.{Some}
use Rattle.rowan_predictive.specs.Causes.{Names}
use Rattle.rowan_predictive.proofs.CauseLemmas.{some-of}
use Rattle.rowan_predictive.proofs.refusals.check_rule.Goals as goal

pub returns-in-Some : goal.returns-in-Some
returns-in-Some c = λ h. (h ∙ ap (λ rule. Some rule) c.in-Some.ensures.0, c.in-Some.ensures.1)

pub returns-in-Some-missing : goal.returns-in-Some-missing
returns-in-Some-missing c = λ h.
    let rules = c.args.rules.now in
    let names = c.parts_of-first.ensures rules in
    let w = c.in-Some-missing.ensures in
    ((c.args.rule, h, some-of (Names rules c.args.rule) c.parts_of-first.result.0 c.in-Some-missing.part w.0 names.0), w.1)

pub returns-in-Some-missing-2 : goal.returns-in-Some-missing-2
returns-in-Some-missing-2 c = λ h.
    let rules = c.args.rules.now in
    let names = c.parts_of-first.ensures rules in
    let w = c.in-Some-missing-2.ensures in
    ((c.args.rule, h, some-of (Names rules c.args.rule) c.parts_of-first.result.1 c.in-Some-missing-2.part w.0 names.1), w.1)
