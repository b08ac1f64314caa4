use Rattle.std.proofs.Common.{◌≤◌, length, take}
use Rattle.rowan_events.specs.Seen.{has}
use Rattle.rowan_parser.proofs.Trivial.{IsSeenBack}
use Rattle.rowan_parser.proofs.tree.outside_of_run.Given as goal

abbrev pub invariant-loop-place : goal.invariant-loop-place
invariant-loop-place l = record {
  within : l.place ≤ length l.run;
  back : IsSeenBack (λ t. has l.kinds.0 t.kind.0) l.run (take l.place l.run) l.outside;
}

abbrev pub decreases-loop-place : goal.decreases-loop-place
decreases-loop-place l = l.place
