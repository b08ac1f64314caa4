use Rattle.std.proofs.Common.{◌∙◌, subst, sym}
use Rattle.rowan_predictive.specs.Causes.{IsEmptyTwice}
use Rattle.rowan_predictive.specs.View.{rules_of}
use Rattle.rowan_predictive.proofs.CauseLemmas.{nullable}
use Rattle.rowan_predictive.proofs.refusals.is_empty_twice.Goals as goal

pub returns-then-may_be_empty : goal.returns-then-may_be_empty
returns-then-may_be_empty c = λ is.
    let entries = c.args.entries.now in
    subst (λ r. IsEmptyTwice (rules_of entries) r) (sym c.in-Choice.is) (
      nullable (rules_of entries) entries c.requires c.in-Choice.a (sym c.may_be_empty.ensures ∙ c.if-may_be_empty.true),
      nullable (rules_of entries) entries c.requires c.in-Choice.b (sym c.may_be_empty-then-may_be_empty.ensures ∙ is),
    )

pub returns-in-Optional : goal.returns-in-Optional
returns-in-Optional c = λ is.
    let entries = c.args.entries.now in
    subst (λ r. IsEmptyTwice (rules_of entries) r) (sym c.in-Optional.is)
    (nullable (rules_of entries) entries c.requires c.in-Optional.a (sym c.may_be_empty-in-Optional.ensures ∙ is))

pub returns-in-Star : goal.returns-in-Star
returns-in-Star c = λ is.
    let entries = c.args.entries.now in
    subst (λ r. IsEmptyTwice (rules_of entries) r) (sym c.in-Star.is)
    (nullable (rules_of entries) entries c.requires c.in-Star.a (sym c.may_be_empty-in-Star.ensures ∙ is))
