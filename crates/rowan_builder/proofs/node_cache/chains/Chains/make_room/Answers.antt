use Rattle.std.proofs.Common.{◌≡◌, ◌+◌, ◌++◌, ◌∷◌, [], length, take, Some, refl, sym, ◌∙◌, ap}
use Rattle.std.proofs.Common.{arith}
use Rattle.std.specs.List.{slice_get}
use Rattle.std.proofs.lemmas.List.{take_more}
use Rattle.std.proofs.lemmas.Option.{slice_get_read, slice_get_within, get_or_from_slice_get}
use Rattle.rowan_builder.specs.declared.node_cache.chains.ChainLink.{ChainLink}
use Rattle.rowan_builder.specs.Chains.{hashes_of}
use Rattle.rowan_terms.proofs.Lists.{at_map}
use Rattle.rowan_builder.proofs.node_cache.chains.Chains.make_room.Goals as goal

pub loop-place-preserved : goal.loop-place-preserved
loop-place-preserved c =
    let ps = c.as_slice-old.result.now in
    let i = c.loop-place.place-index in
    let p : ChainLink = c.place-item.result in
    let at : slice_get ps i ≡ Some p =
    slice_get_read ps (length ps) i p refl c.loop-place-test.true c.place-item.is in
    let at_hash : slice_get (hashes_of ps) i ≡ Some p.hash =
    at_map (λ (q : ChainLink). q.hash) ps i p at in
    let more : take (i + 1) (hashes_of ps) ≡ take i (hashes_of ps) ++ p.hash ∷ [] =
    take_more (hashes_of ps) i p.hash (slice_get_within (hashes_of ps) i p.hash at_hash)
    ∙ ap (λ h. take i (hashes_of ps) ++ h ∷ [])
    (get_or_from_slice_get (hashes_of ps) i p.hash p.hash at_hash) in
    record {
      room = omega (arith, c.loop-place.invariant.room, c.in_ok-add_place.ensures.len);
      same = c.in_ok-add_place.ensures.hashes
          ∙ ap (λ hs. hs ++ p.hash ∷ []) c.loop-place.invariant.same ∙ sym more;
      linked = c.in_ok-add_place.ensures.ok c.loop-place.invariant.linked;
    }
