use Rattle.std.proofs.Common.{◌∙◌, refl, sym}
use Rattle.rowan_predictive.specs.View.{rules_of}
use Rattle.rowan_predictive.proofs.CauseLemmas.{nullable}
use Rattle.rowan_predictive.proofs.refusals.if_empty.Goals as goal

pub returns-then-may_be_empty : goal.returns-then-may_be_empty
returns-then-may_be_empty c = (
  refl,
  nullable (rules_of c.args.entries.now) c.args.entries.now c.requires c.args.number
      (sym c.may_be_empty.ensures ∙ c.if-may_be_empty.true),
)
