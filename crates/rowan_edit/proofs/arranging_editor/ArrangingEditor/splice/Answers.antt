use Rattle.std.proofs.Common.{inr, subst}
use Rattle.rowan_edit.specs.Arrangements.{ArrangedPlan, HasExcluded}
use Rattle.rowan_edit.specs.ArrangementsKept.{arrangements_in}
use Rattle.rowan_edit.specs.Edges.{range_edit}
use Rattle.rowan_edit.proofs.ArrangedPlanLemmas.{clear-after}
use Rattle.rowan_edit.proofs.arranging_editor.ArrangingEditor.splice.Goals as goal

pub returns-then-excluded-clause-err : goal.returns-then-excluded-clause-err
returns-then-excluded-clause-err c =
    let e = range_edit c.args.parent.now c.args.new.items c.args.children.start
    c.args.children.end in
    inr (subst (λ (p : ArrangedPlan). HasExcluded p.arrangements e) c.self.view_is
    (c.in_ok-excluded.ensures.some c.args.new.items c.if-excluded.true))

pub invariant_of-self : goal.invariant_of-self
invariant_of-self c =
    clear-after c.splice.result c.self.inside.green c.splice.new.self
    (range_edit c.args.parent.now c.args.new.items c.args.children.start c.args.children.end)
    (arrangements_in c.self.inside.arrangements.entries) c.splice.ensures.ok
    c.splice.ensures.unchanged c.self.invariant
    (c.in_ok-excluded.ensures.none c.args.new.items c.if-excluded.false)
