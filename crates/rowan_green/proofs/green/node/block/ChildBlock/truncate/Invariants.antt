use Rattle.std.proofs.Common.{◌≡◌, ◌≤◌, take}
use Rattle.std.specs.Vec.{vec_len, vec_capacity}
use Rattle.rowan_green.proofs.green.node.block.ChildBlock.truncate.Given as goal

abbrev pub invariant-loop-self : goal.invariant-loop-self
invariant-loop-self l = record {
  same : take l.place l.self.block.list.items ≡ take l.place l.initial.self.block.list.items;
  fewer : vec_len l.self.block.list ≤ vec_len l.initial.self.block.list;
  room : vec_capacity l.self.block.list ≡ vec_capacity l.initial.self.block.list;
}

abbrev pub decreases-loop-self : goal.decreases-loop-self
decreases-loop-self l = vec_len l.self.block.list
