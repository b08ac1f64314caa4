use Rattle.std.proofs.Common.{length, refl}
use Rattle.std.proofs.lemmas.Option.{slice_get_past, slice_get_read}
use Rattle.rowan_builder.specs.Loan.{value_of}
use Rattle.rowan_script.proofs.Calls.{advances-finish, advances-taken, advances-unknown}
use Rattle.rowan_script.proofs.script.make_call.Goals as goal

pub returns-in-FinishNode-clause-advances : goal.returns-in-FinishNode-clause-advances
returns-in-FinishNode-clause-advances g c =
    rw (c.in-FinishNode.is, c.from-in-FinishNode.ensures) (advances-finish c.args.marks.now
    (value_of c.args.builder.now) (value_of c.finish_node.new.self) c.finish_node.result
    c.finish_node.ensures.ok c.finish_node.ensures.err c.finish_node.ensures.unchanged
    c.finish_node.ensures.nothing_open)

pub returns-in-Some-clause-advances : goal.returns-in-Some-clause-advances
returns-in-Some-clause-advances g c =
    rw (c.in-StartNodeAt.is, c.from-in-Some.ensures) (advances-taken c.args.marks.now
    (value_of c.args.builder.now) (value_of c.start_node_at.new.self) c.in-StartNodeAt.mark
    c.in-Some.checkpoint.now c.in-StartNodeAt.kind c.start_node_at.result
    (slice_get_read c.args.marks.now (length c.args.marks.now) c.in-StartNodeAt.mark
    c.in-Some.checkpoint.now refl c.in-Some.ensures.lookup.3.0 c.in-Some.ensures.lookup.1)
    c.start_node_at.ensures.ok c.start_node_at.ensures.err c.start_node_at.ensures.unchanged
    c.start_node_at.ensures.past c.start_node_at.ensures.before)

pub returns-in-None-clause-advances : goal.returns-in-None-clause-advances
returns-in-None-clause-advances g c =
    rw c.in-StartNodeAt.is (advances-unknown c.args.marks.now (value_of c.args.builder.now)
    (value_of c.args.builder.now) c.in-StartNodeAt.mark c.in-StartNodeAt.kind
    (slice_get_past c.args.marks.now c.in-StartNodeAt.mark c.in-None.ensures.lookup.3) refl)
