use Rattle.std.proofs.Common.{◌∙◌, sym}
use Rattle.rowan_predictive.specs.View.{rules_of}
use Rattle.rowan_predictive.proofs.CauseLemmas.{if-some, nullable, may-begin, may-follow}
use Rattle.rowan_predictive.proofs.refusals.begins_and_follows.Goals as goal

pub returns-then-may_be_empty : goal.returns-then-may_be_empty
returns-then-may_be_empty c =
    let entries = c.args.entries.now in
    if-some _ _ c.shared_kind.result
    (λ kind p. record {
      empty = nullable (rules_of entries) entries c.requires c.args.number (sym c.may_be_empty.ensures ∙ c.if-may_be_empty.true);
      first = may-begin (rules_of entries) entries c.requires c.args.number kind _ c.first.ensures p.0;
      follow = may-follow (rules_of entries) entries c.requires c.args.number kind _ c.follow.ensures p.1;
    })
    c.shared_kind.ensures
