use Rattle.std.proofs.Common.{sym, ◌∙◌}
use Rattle.rowan_edit.proofs.RankLemmas.{cut-at, ends-above, none-above, meets-above}
use Rattle.rowan_edit.proofs.ranked.is_before.Goals as goal

pub returns-in-Some-clause-before : goal.returns-in-Some-clause-before
returns-in-Some-clause-before c = λ yes.
    ends-above c.args.edits.now.entries c.args.rank.now c.requires c.range.result _ _
    (c.range.ensures.between tt) c.in-Some.ensures.steps (sym c.ends_before.ensures ∙ yes)

pub returns-in-Some-clause-conflict : goal.returns-in-Some-clause-conflict
returns-in-Some-clause-conflict c = λ no.
    meets-above c.args.edits.now.entries c.args.rank.now c.requires c.range.result _ _
    (cut-at c.args.rank.now c.args.edits.now.entries c.range.ensures.ordered c.requires.newest)
    (c.range.ensures.between tt) c.in-Some.ensures.steps (sym c.ends_before.ensures ∙ no)

pub returns-in-None-clause-before : goal.returns-in-None-clause-before
returns-in-None-clause-before c = λ yes.
    none-above c.args.edits.now.entries c.args.rank.now c.requires c.range.result
    (c.range.ensures.between tt) c.in-None.ensures.steps.0
