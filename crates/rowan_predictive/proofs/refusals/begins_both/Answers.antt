use Rattle.rowan_predictive.specs.View.{rules_of}
use Rattle.rowan_predictive.proofs.CauseLemmas.{if-some, may-begin}
use Rattle.rowan_predictive.proofs.refusals.begins_both.Goals as goal

pub returns : goal.returns
returns c =
    let entries = c.args.entries.now in
    if-some _ _ c.shared_kind.result
    (λ kind p. (
      may-begin (rules_of entries) entries c.requires c.args.a kind _ c.first.ensures p.0,
      may-begin (rules_of entries) entries c.requires c.args.b kind _ c.first-2.ensures p.1,
    ))
    c.shared_kind.ensures
