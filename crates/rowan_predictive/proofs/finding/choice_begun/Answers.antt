use Rattle.std.proofs.Common.{◌∙◌, sym, inl, inr}
use Rattle.rowan_predictive.proofs.CauseLemmas.{choice}
use Rattle.rowan_predictive.proofs.finding.choice_begun.Goals.{then-left, else-left}
use Rattle.rowan_predictive.proofs.finding.choice_begun.Goals as goal

pub returns : goal.returns
returns c = λ rules i a b h so too.
    choice rules i a b c.args.left c.args.right so too _ _ c.union.ensures
    (λ e. elim c.if-left.branch [
      | then-left w ↦ inl w.if-left.true
      | else-left w ↦ inr (sym w.is_empty-is ∙ e)
    ])
    h
