use Rattle.std.proofs.Common.{ap, arith}
use Rattle.rowan_builder.specs.Cache.{count_nodes}
use Rattle.rowan_builder.proofs.CountLemmas.{count-length}
use Rattle.rowan_builder.proofs.node_cache.NodeCache.node_count.Goals as goal

pub returns : goal.returns
returns c = let s = c.self.inside in
    omega (
      arith,
      count-length s.table,
      c.self.invariant.0.counted,
      ap (λ v. count_nodes v.seen) c.self.view_is,
    )
