use Rattle.rowan_cursor.proofs.cursor.traversal.Traversal.next_node_event.Goals as goal

pub returns-clause-end : goal.returns-clause-end
returns-clause-end c = rw c.in_default.ensures.end tt
