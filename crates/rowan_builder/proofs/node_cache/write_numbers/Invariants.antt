use Rattle.std.proofs.Common.{take}
use Rattle.rowan_builder.specs.Cache.{ListsNumbers}
use Rattle.rowan_builder.proofs.node_cache.write_numbers.Given as goal

abbrev pub invariant-loop-child : goal.invariant-loop-child
invariant-loop-child l = ListsNumbers (take l.child-index l.children) l.numbers.items
