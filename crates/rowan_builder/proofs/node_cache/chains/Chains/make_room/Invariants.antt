use Rattle.std.proofs.Common.{◌≡◌, ◌<◌, length, take}
use Rattle.rowan_builder.specs.Chains.{hashes_of, older_of, AreLinked}
use Rattle.rowan_builder.proofs.node_cache.chains.Chains.make_room.Given as goal

abbrev pub invariant-loop-place : goal.invariant-loop-place
invariant-loop-place l = record {
  room : length l.old < length l.newest.items;
  same : hashes_of l.places.items ≡ take l.place-index (hashes_of l.old);
  linked : AreLinked (hashes_of l.places.items) l.newest.items (older_of l.places.items);
}
