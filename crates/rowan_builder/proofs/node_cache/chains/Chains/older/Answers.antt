use Rattle.std.proofs.Common.{◌≡◌, ◌<◌, length, map, Some, sym, ◌∙◌, ap, subst, arith}
use Rattle.std.specs.List.{slice_get}
use Rattle.std.proofs.lemmas.List.{length-map}
use Rattle.rowan_builder.specs.declared.node_cache.chains.ChainLink.{ChainLink}
use Rattle.rowan_builder.specs.Chains.{bucket, hashes_of, older_of, IsNewest, IsOnChain, AreLinked}
use Rattle.rowan_builder.proofs.ChainWalks.{IsOnChain-older, IsNewest-older, hash_at, older_at}
use Rattle.rowan_builder.proofs.node_cache.chains.Chains.older.Goals as goal

pub index-here-requires : goal.index-here-requires
index-here-requires c =
    let ps = c.self.inside.places.items in
    let below : c.args.place < length (hashes_of ps) =
    subst (λ v. c.args.place < length v.hashes) (sym c.self.view_is) c.requires in
    omega (arith, below, length-map ps (λ (p : ChainLink). p.hash), c.self.inside.places.ok.0)

pub place_with-requires : goal.place_with-requires
place_with-requires c =
    let ps = c.self.inside.places.items in
    let p : ChainLink = c.index-here.result.now in
    let below : c.args.place < length (hashes_of ps) =
    subst (λ v. c.args.place < length v.hashes) (sym c.self.view_is) c.requires in
    subst (λ qs. IsOnChain (hashes_of qs) (older_of qs) p.older) (sym c.as_slice.ensures.value)
    (IsOnChain-older (hashes_of ps) c.self.inside.newest.items (older_of ps) c.self.invariant.linked
    c.args.place p.older (older_at ps c.args.place p below c.index-here.ensures))

pub returns : goal.returns
returns c = λ hash given.
    let s = c.self.inside in
    let ps = s.places.items in
    let newest = s.newest.items in
    let linked = c.self.invariant.linked in
    let place = c.args.place in
    let p : ChainLink = c.index-here.result.now in
    let below : place < length (hashes_of ps) =
    subst (λ v. place < length v.hashes) (sym c.self.view_is) c.requires in
    let at_hash = hash_at ps place p below c.index-here.ensures in
    let both : Some p.hash ≡ Some hash =
    sym at_hash ∙ ap (λ v. slice_get v.hashes place) c.self.view_is ∙ given in
    let same : p.hash ≡ hash = cc in
    let next = IsNewest-older (hashes_of ps) newest (older_of ps) linked place p.hash p.older
    at_hash (older_at ps place p below c.index-here.ensures) in
    let found = c.place_with.ensures newest place
    (subst (λ qs. AreLinked (hashes_of qs) newest (older_of qs)) (sym c.as_slice.ensures.value)
    linked)
    (subst (λ qs. IsNewest (map (bucket (length newest)) (hashes_of qs)) place
    (bucket (length newest) p.hash) p.older) (sym c.as_slice.ensures.value) next) in
    subst (λ k. IsNewest c.args.self.now.hashes place k c.place_with.result) same
    (subst (λ v. IsNewest v.hashes place p.hash c.place_with.result) c.self.view_is
    (subst (λ qs. IsNewest (hashes_of qs) place p.hash c.place_with.result) c.as_slice.ensures.value
    found))
