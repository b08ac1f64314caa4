use Rattle.rowan_edit.proofs.PlaceRankLemmas.{none-there, some-at, none-at}
use Rattle.std.proofs.Common.{sym, ◌∙◌}
use Rattle.rowan_edit.proofs.ranked.has_edit_at.Goals as goal

pub returns-in-Some-clause-some : goal.returns-in-Some-clause-some
returns-in-Some-clause-some c = λ yes.
    some-at c.args.rank.now c.requires.end c.requires.count c.args.edits.now.entries
    c.range.result _ _ (c.range.ensures.between tt) c.in-Some.ensures.steps c.eq.result
    c.eq.ensures yes

pub returns-in-Some-clause-none : goal.returns-in-Some-clause-none
returns-in-Some-clause-none c = λ other.
    none-at c.args.rank.now c.requires.end c.requires.count c.args.edits.now.entries
    c.range.result _ _ c.range.ensures.ordered (c.range.ensures.between tt)
    c.in-Some.ensures.steps c.eq.result c.eq.ensures other

pub returns-in-None-clause-none : goal.returns-in-None-clause-none
returns-in-None-clause-none c = λ other.
    none-there c.args.rank.now c.requires.end c.requires.count c.args.edits.now.entries
    (sym (c.range.ensures.between tt) ∙ c.in-None.ensures.steps.0)
