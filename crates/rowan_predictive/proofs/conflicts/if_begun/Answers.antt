use Rattle.std.proofs.Common.{◌∙◌, refl, sym}
use Rattle.rowan_predictive.specs.View.{rules_of}
use Rattle.rowan_predictive.proofs.CauseLemmas.{may-begin}
use Rattle.rowan_predictive.proofs.conflicts.if_begun.Goals as goal

pub returns-then-contains : goal.returns-then-contains
returns-then-contains c = (
  refl,
  may-begin (rules_of c.args.entries.now) c.args.entries.now c.requires c.args.number c.args.kind _ c.first.ensures
      (sym c.contains.ensures ∙ c.if-contains.true),
)
