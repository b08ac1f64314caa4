use Rattle.std.proofs.Common.{◌≡◌, ◌<◌, length, map, Some, refl, sym, ◌∙◌, ap, subst}
use Rattle.std.specs.List.{slice_get}
use Rattle.std.proofs.lemmas.Option.{slice_get_read}
use Rattle.rowan_builder.specs.Chains.{bucket, hashes_of, older_of, IsNewest, IsOnChain, AreLinked}
use Rattle.rowan_builder.proofs.ChainWalks.{IsOnChain-newest}
use Rattle.rowan_builder.proofs.node_cache.chains.Chains.newest.Goals as goal

pub place_with-requires : goal.place_with-requires
place_with-requires c =
    let s = c.self.inside in
    let ps = s.places.items in
    let newest = s.newest.items in
    let o = c.index-first.result.now in
    let within = subst (λ n. c.bucket.result < n) (c.len.ensures ∙ s.newest.ok.0)
    c.bucket.ensures.within in
    let at : slice_get newest c.bucket.result ≡ Some o =
    slice_get_read newest (length newest) c.bucket.result o refl within c.index-first.ensures in
    subst (λ qs. IsOnChain (hashes_of qs) (older_of qs) o) (sym c.as_slice.ensures.value)
    (IsOnChain-newest (hashes_of ps) newest (older_of ps) c.self.invariant.linked c.bucket.result o
    at)

pub returns : goal.returns
returns c =
    let s = c.self.inside in
    let ps = s.places.items in
    let hashes = hashes_of ps in
    let newest = s.newest.items in
    let o = c.index-first.result.now in
    let count : c.len.result ≡ length newest = c.len.ensures ∙ s.newest.ok.0 in
    let here : c.bucket.result ≡ bucket (length newest) c.args.hash =
    c.bucket.ensures.value ∙ ap (λ n. bucket n c.args.hash) count in
    let within = subst (λ n. c.bucket.result < n) count c.bucket.ensures.within in
    let at : slice_get newest c.bucket.result ≡ Some o =
    slice_get_read newest (length newest) c.bucket.result o refl within c.index-first.ensures in
    let first = subst (λ b. IsNewest (map (bucket (length newest)) hashes) (length hashes) b o) here
    (c.self.invariant.linked.first c.bucket.result o at) in
    let found = c.place_with.ensures newest (length hashes)
    (subst (λ qs. AreLinked (hashes_of qs) newest (older_of qs)) (sym c.as_slice.ensures.value)
    c.self.invariant.linked)
    (subst (λ qs. IsNewest (map (bucket (length newest)) (hashes_of qs)) (length hashes)
    (bucket (length newest) c.args.hash) o) (sym c.as_slice.ensures.value) first) in
    subst (λ v. IsNewest v.hashes (length v.hashes) c.args.hash c.place_with.result) c.self.view_is
    (subst (λ qs. IsNewest (hashes_of qs) (length hashes) c.args.hash c.place_with.result)
    c.as_slice.ensures.value found)
