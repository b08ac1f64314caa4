use Rattle.std.proofs.Common.{◌≡◌, ◌≤◌, length, take, vec_len, vec_capacity}
use Rattle.rowan_green.specs.declared.utility_types.NodeOrToken.TheVariants.{Node}
use Rattle.rowan_script.specs.Trace.{Trace, last_element}
use Rattle.rowan_script.proofs.script.traces.trace.Given as goal

abbrev pub invariant-loop-step : goal.invariant-loop-step
invariant-loop-step l = record {
  trace : Trace (Node l.start) (take l.step-index l.steps) l.reports.items;
  here : l.here ≡ last_element (Node l.start) l.reports.items;
  room : length l.steps ≤ vec_capacity l.reports;
  len : vec_len l.reports ≡ l.step-index;
}
