use Rattle.std.proofs.Common.{◌≡◌, ◌+◌, ◌<◌, List, length, reverse, refl, sym, ap, subst, rules}
use Rattle.rowan_predictive.specs.declared.rules.Entry.{Entry}
use Rattle.rowan_predictive.specs.Costs.{IsBounded}
use Rattle.rowan_predictive.specs.Predictive.{IsPredictive}
use Rattle.rowan_predictive.specs.Machine.{State}
use Rattle.rowan_predictive.specs.View.{state_of, items_of, AreAnchors}
use Rattle.rowan_predictive.specs.Whole.{IsTotal, Ends}
use Rattle.rowan_predictive.proofs.Bounds.{steps_left, step-less}
use Rattle.rowan_predictive.proofs.Whole.{total-step, turn, no-items}
use Rattle.rowan_predictive.proofs.States.{some-items}
use Rattle.rowan_predictive.proofs.grammars.Grammar.run_to_end.Goals as goal

pub steps-init : goal.steps-init
steps-init c = record {
  way = record { count = 0; steps = refl };
  total = c.requires.total;
  anchors = subst (λ (x : List Entry). AreAnchors x (reverse c.args.machine.now.stack.items))
      (sym c.as_slice-entries.ensures.value) c.requires.anchors;
}

pub steps-preserved : goal.steps-preserved
steps-preserved c =
    let entries = c.as_slice-entries.result.now in
    let tokens = c.args.kinds.now in
    let old = state_of c.steps.machine in
    record {
      way = record {
        count = c.steps.invariant.way.count + 1;
        steps = turn entries tokens c.steps.invariant.way.count (state_of c.args.machine.now) old _
            c.in_ok-step.ensures.state c.steps.invariant.way.steps;
      };
      total = subst (λ (x : State). IsTotal tokens x) (sym c.in_ok-step.ensures.state)
          (total-step entries tokens old c.steps.invariant.total);
      anchors = c.in_ok-step.ensures.anchors;
    }

pub steps-smaller : goal.steps-smaller
steps-smaller c =
    let entries = c.as_slice-entries.result.now in
    let items = c.args.self.now.entries.items in
    let tokens = c.args.kinds.now in
    let same : items ≡ entries = sym c.as_slice-entries.ensures.value in
    let bounded : IsBounded entries c.args.self.now.per_token =
    subst (λ (x : List Entry). IsBounded x c.args.self.now.per_token) same c.args.self.now.bounded in
    let fits : IsPredictive entries = subst (λ (x : List Entry). IsPredictive x) same c.args.self.now.predictive in
    let old = state_of c.steps.machine in
    let less = step-less entries c.args.self.now.per_token bounded fits tokens old
    (some-items c.steps.machine.stack.items (search rules)) in
    subst (λ (x : State). steps_left entries c.args.self.now.per_token tokens x < steps_left entries c.args.self.now.per_token tokens old)
    (sym c.in_ok-step.ensures.state) less

pub returns : goal.returns
returns c =
    let entries = c.as_slice-entries.result.now in
    let items = c.args.self.now.entries.items in
    let none : length c.steps.machine.stack.items ≡ 0 = search rules in
    subst (λ (x : List Entry). Ends x c.args.kinds.now (state_of c.args.machine.now) (state_of c.steps.machine))
    c.as_slice-entries.ensures.value (record {
      count = c.steps.invariant.way.count;
      steps = c.steps.invariant.way.steps;
      done = ap (λ x. items_of (reverse x)) (no-items c.steps.machine.stack.items none);
    })
