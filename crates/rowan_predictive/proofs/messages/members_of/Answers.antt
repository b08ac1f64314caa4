use Rattle.std.proofs.Common.{◌-◌, ◌+◌, arith}
use Rattle.rowan_events.specs.Seen.{has}
use Rattle.rowan_predictive.proofs.MessageLemmas.{members-more, members-end}
use Rattle.rowan_predictive.proofs.messages.members_of.Goals as goal

pub loop-kind-preserved : goal.loop-kind-preserved
loop-kind-preserved c =
    members-more (has c.args.kinds.0) c.contains.result (128 - c.loop-kind.kind) (128 - (c.loop-kind.kind + 1))
    c.loop-kind.kind c.loop-kind.members.items _ _ (omega arith) c.contains.ensures
    c.in_ok-push_member.ensures.members c.loop-kind.invariant

pub returns-clause-members : goal.returns-clause-members
returns-clause-members c =
    members-end (has c.args.kinds.0) (128 - c.loop-kind.kind) c.loop-kind.kind c.loop-kind.members.items _
    (omega arith) c.loop-kind.invariant
