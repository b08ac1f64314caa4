use Rattle.std.proofs.Common.{◌≡◌, take, fold}
use Rattle.std.specs.Hash as fed
use Rattle.std.specs.Hash.FoldHasher.{initial, write}
use Rattle.std.specs.List.{flat_map}
use Rattle.rowan_builder.proofs.node_cache.table.node_hash.Given as goal

abbrev pub invariant-loop-number : goal.invariant-loop-number
invariant-loop-number l =
    l.state ≡ fold write initial (flat_map fed.u32 (take l.number-index l.numbers))
