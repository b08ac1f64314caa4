use Rattle.std.proofs.Common.{sym, ◌∙◌}
use Rattle.rowan_edit.proofs.RankLemmas.{cut-at, ranked-below, ends-below, none-below, meets-below}
use Rattle.rowan_edit.proofs.ranked.is_behind.Goals as goal

pub ends_before-requires : goal.ends_before-requires
ends_before-requires c =
    ranked-below c.args.edits.now.entries c.args.rank.now c.requires c.range.result _ _
    (cut-at c.args.rank.now c.args.edits.now.entries c.range.ensures.ordered c.requires.newest)
    (c.range.ensures.between tt) c.in-Some.ensures.steps

pub returns-in-Some-clause-cut : goal.returns-in-Some-clause-cut
returns-in-Some-clause-cut c =
    cut-at c.args.rank.now c.args.edits.now.entries c.range.ensures.ordered c.requires.newest

pub returns-in-Some-clause-behind : goal.returns-in-Some-clause-behind
returns-in-Some-clause-behind c = λ yes.
    ends-below c.args.edits.now.entries c.args.rank.now c.requires c.range.result _ _
    (c.range.ensures.between tt) c.in-Some.ensures.steps (sym c.ends_before.ensures ∙ yes)

pub returns-in-Some-clause-conflict : goal.returns-in-Some-clause-conflict
returns-in-Some-clause-conflict c = λ no.
    meets-below c.args.edits.now.entries c.args.rank.now c.requires c.range.result _ _
    (cut-at c.args.rank.now c.args.edits.now.entries c.range.ensures.ordered c.requires.newest)
    (c.range.ensures.between tt) c.in-Some.ensures.steps (sym c.ends_before.ensures ∙ no)

pub returns-in-None-clause-cut : goal.returns-in-None-clause-cut
returns-in-None-clause-cut c =
    cut-at c.args.rank.now c.args.edits.now.entries c.range.ensures.ordered c.requires.newest

pub returns-in-None-clause-behind : goal.returns-in-None-clause-behind
returns-in-None-clause-behind c = λ yes.
    none-below c.args.edits.now.entries c.args.rank.now c.requires c.range.result
    (c.range.ensures.between tt) c.in-None.ensures.steps.0
