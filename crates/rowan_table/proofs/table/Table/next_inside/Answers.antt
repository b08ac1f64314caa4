use Rattle.rowan_table.proofs.ChunkLemmas.{left-step}
use Rattle.rowan_table.proofs.table.Table.next_inside.Goals as goal

pub returns-clause-left : goal.returns-clause-left
returns-clause-left c =
    left-step c.args.self.now c.args.top c.args.number c.step_on.result c.requires
    c.step_on.ensures.next c.step_on.ensures.end
