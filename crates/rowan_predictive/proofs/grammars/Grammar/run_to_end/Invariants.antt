-- Each step leads on, and lowers the bound on the steps that are left.
use Rattle.std.proofs.Common.{reverse}
use Rattle.rowan_predictive.specs.View.{state_of, AreAnchors}
use Rattle.rowan_predictive.specs.Whole.{IsTotal}
use Rattle.rowan_predictive.proofs.Bounds.{steps_left}
use Rattle.rowan_predictive.proofs.Whole.{IsOnWay}
use Rattle.rowan_predictive.proofs.grammars.Grammar.run_to_end.Given as goal

abbrev pub invariant-steps : goal.invariant-steps
invariant-steps l = record {
  way : IsOnWay l.entries l.kinds (state_of l.fn.machine) (state_of l.machine);
  total : IsTotal l.kinds (state_of l.machine);
  anchors : AreAnchors l.entries (reverse l.machine.stack.items);
}

abbrev pub decreases-steps : goal.decreases-steps
decreases-steps l = steps_left l.entries l.self.per_token l.kinds (state_of l.machine)
