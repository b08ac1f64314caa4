use Rattle.std.proofs.Common.{sym, ◌∙◌, subst}
use Rattle.std.proofs.lemmas.Option.{same_Some}
use Rattle.rowan_green.specs.Lent.{pointee}
use Rattle.rowan_builder.specs.Tables.{KeepsLimits}
use Rattle.rowan_builder.proofs.node_cache.share_at.Goals as goal

pub returns-clause-fits : goal.returns-clause-fits
returns-clause-fits c = λ t stands.
    subst KeepsLimits (same_Some (pointee c.value.result) t (sym c.value.ensures.stands ∙ stands))
    c.value.ensures.fits
