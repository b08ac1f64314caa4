use Rattle.rowan_builder.specs.Chains.{hashes_of, older_of}
use Rattle.rowan_builder.proofs.ChainWalks.{IsWalk}
use Rattle.rowan_builder.proofs.TableLemmas.{left_before}
use Rattle.rowan_builder.proofs.node_cache.chains.place_with.Given as goal

abbrev pub invariant-loop-next : goal.invariant-loop-next
invariant-loop-next l =
    IsWalk (hashes_of l.places) (older_of l.places) l.fn.hash l.fn.next l.next

abbrev pub decreases-loop-next : goal.decreases-loop-next
decreases-loop-next l = left_before l.next
