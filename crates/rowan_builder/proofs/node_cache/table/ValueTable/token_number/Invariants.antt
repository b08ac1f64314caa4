use Rattle.rowan_green.specs.declared.utility_types.NodeOrToken.TheVariants.{Token}
use Rattle.rowan_green.specs.Term.{token_of}
use Rattle.rowan_green.specs.Same.{same_term}
use Rattle.rowan_builder.specs.Tables.{kept_term}
use Rattle.rowan_builder.proofs.TableLemmas.{IsAhead, left_before}
use Rattle.rowan_builder.proofs.node_cache.table.ValueTable.token_number.Given as goal

abbrev pub invariant-loop-next : goal.invariant-loop-next
invariant-loop-next l =
    IsAhead l.self-inside.values.items l.self-inside.chains.hashes l.fn.hash l.next
    (λ k. same_term (kept_term k) (Token (token_of l.kind.0 l.text)))

abbrev pub decreases-loop-next : goal.decreases-loop-next
decreases-loop-next l = left_before l.next
