use Rattle.std.proofs.Common.{ap, arith}
use Rattle.rowan_green.specs.Lent.{pointee}
use Rattle.rowan_green.specs.Term.{node_children}
use Rattle.rowan_table.specs.declared.table.count.Count.{Count}
use Rattle.rowan_table.specs.Count.{met_deeper}
use Rattle.rowan_table.proofs.TotalLemmas.{node-more, token-more, met-more, deeper-some}
use Rattle.rowan_table.proofs.table.count.Count.meet_children.Goals as goal
use Rattle.rowan_table.proofs.table.count.Count.meet_children.Goals.{in-Node+in_ok-meet-in-Node}
use Rattle.rowan_table.proofs.table.count.Count.meet_children.Goals.{in-Token}

pub loop-index-preserved : goal.loop-index-preserved
loop-index-preserved c =
    let ts = node_children c.args.node.now in
    let i = c.loop-index.index in
    let at = c.in-Some.ensures.some.1 in
    elim c.match-found.branch [
      | in-Node+in_ok-meet-in-Node w ↦ omega (
        arith,
        c.loop-index.invariant,
        w.in_ok-meet-in-Node.ensures.known,
        met-more c.loop-index.self w.meet.new.self w.in-Node.child w.in_ok-meet-in-Node.ensures.met,
        node-more ts i (pointee c.in-Some.found.1) w.in-Node.child.now at (ap pointee w.in-Node.is),
        ap (λ (s : Count). s.known) w.self-is,
        ap met_deeper w.self-is,
      )
      | in-Token w ↦ omega (
        arith,
        c.loop-index.invariant,
        token-more ts i (pointee c.in-Some.found.1) _ at (ap pointee w.in-Token.is),
        ap (λ (s : Count). s.known) w.self-is,
        ap met_deeper w.self-is,
      )
    ]

pub returns : goal.returns
returns c =
    omega (
      arith,
      c.loop-index.invariant,
      deeper-some (node_children c.args.node.now) c.loop-index.index,
    )
