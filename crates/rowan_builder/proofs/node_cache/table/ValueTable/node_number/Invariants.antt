use Rattle.rowan_builder.specs.Tables.{kept_term, is_node_by}
use Rattle.rowan_builder.proofs.TableLemmas.{IsAhead, left_before}
use Rattle.rowan_builder.proofs.node_cache.table.ValueTable.node_number.Given as goal

abbrev pub invariant-loop-next : goal.invariant-loop-next
invariant-loop-next l =
    IsAhead l.self-inside.values.items l.self-inside.chains.hashes l.fn.hash l.next
    (λ k. is_node_by l.self-inside.child_numbers.items l.kind.0 l.numbers k (kept_term k))

abbrev pub decreases-loop-next : goal.decreases-loop-next
decreases-loop-next l = left_before l.next
