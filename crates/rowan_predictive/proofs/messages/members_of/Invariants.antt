use Rattle.std.proofs.Common.{◌≡◌, ◌-◌, ◌++◌}
use Rattle.rowan_events.specs.Seen.{has}
use Rattle.rowan_predictive.specs.Messages.{fitting_from}
use Rattle.rowan_predictive.proofs.messages.members_of.Given as goal

abbrev pub invariant-loop-kind : goal.invariant-loop-kind
invariant-loop-kind l = l.members.items ++ fitting_from (has l.kinds.0) (128 - l.kind) l.kind
    ≡ fitting_from (has l.kinds.0) 128 0
