use Rattle.std.proofs.Common.{sym, ◌∙◌}
use Rattle.rowan_edit.proofs.ArrangedPlanLemmas.{some-between, none-between}
use Rattle.rowan_edit.proofs.arranging_editor.has_between.Goals as goal

pub returns-in-Some-clause-some : goal.returns-in-Some-clause-some
returns-in-Some-clause-some c = λ yes.
    some-between c.args.first.now.items c.args.past.now.items c.args.arrangements.now.entries _ _
    (sym (c.range.ensures.between tt) ∙ c.in-Some.ensures.steps)

pub returns-in-None-clause-none : goal.returns-in-None-clause-none
returns-in-None-clause-none c = λ no_entry.
    none-between c.args.first.now.items c.args.past.now.items c.args.arrangements.now.entries
    (sym (c.range.ensures.between tt) ∙ c.in-None.ensures.steps.0)
