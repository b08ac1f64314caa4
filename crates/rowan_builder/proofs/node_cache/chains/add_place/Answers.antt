use Rattle.std.proofs.Common.{◌≡◌, ◌<◌, ◌∷◌, [], ◌++◌, length, Some, refl, sym, ◌∙◌, ap, subst}
use Rattle.std.proofs.Common.{slice_set}
use Rattle.std.specs.List.{slice_get}
use Rattle.std.proofs.lemmas.List.{length-map, map-append}
use Rattle.std.proofs.lemmas.Option.{slice_get_read}
use Rattle.rowan_builder.specs.declared.node_cache.chains.ChainLink.{ChainLink}
use Rattle.rowan_builder.specs.Chains.{bucket, hashes_of, older_of, AreLinked}
use Rattle.rowan_builder.proofs.ChainLemmas.{AreLinked-push, bucket-within}
use Rattle.rowan_builder.proofs.node_cache.chains.add_place.Goals as goal

pub returns-clause-ok : goal.returns-clause-ok
returns-clause-ok c = λ linked.
    let newest = c.args.newest.now.items in
    let ps = c.args.places.now.items in
    let hs = hashes_of ps in
    let os = older_of ps in
    let o = c.index-older.result.now in
    let count : c.len.result ≡ length newest = c.len.ensures ∙ c.args.newest.now.ok.0 in
    let place : c.len-number.result ≡ length os =
    c.len-number.ensures ∙ c.args.places.now.ok.0
    ∙ sym (length-map ps (λ (p : ChainLink). p.older)) in
    let here : c.bucket-bucket.result ≡ bucket (length newest) c.args.hash =
    c.bucket-bucket.ensures.value ∙ ap (λ n. bucket n c.args.hash) count in
    let within = subst (λ n. n < length newest) (sym here)
    (bucket-within (length newest) c.args.hash c.requires.some) in
    let at : slice_get newest (bucket (length newest) c.args.hash) ≡ Some o =
    ap (slice_get newest) (sym here)
    ∙ slice_get_read newest (length newest) c.bucket-bucket.result o refl within
    c.index-older.ensures in
    let set_at = ap (λ n. slice_set newest n c.to.result) here
    ∙ ap (λ q. slice_set newest (bucket (length newest) c.args.hash) q)
    (c.to.ensures ∙ ap (λ n. Some n) place) in
    let p : ChainLink = record { hash = c.args.hash; older = o } in
    let hashes_so : hashes_of c.push.new.self.items ≡ hs ++ c.args.hash ∷ [] =
    ap hashes_of c.in_ok-push.ensures.items
    ∙ map-append (λ (q : ChainLink). q.hash) ps (p ∷ []) in
    let older_so : older_of c.push.new.self.items ≡ os ++ o ∷ [] =
    ap older_of c.in_ok-push.ensures.items
    ∙ map-append (λ (q : ChainLink). q.older) ps (p ∷ []) in
    subst (λ is. AreLinked is (slice_set newest c.bucket-bucket.result c.to.result)
    (older_of c.push.new.self.items)) (sym hashes_so)
    (subst (λ is. AreLinked (hs ++ c.args.hash ∷ [])
    (slice_set newest c.bucket-bucket.result c.to.result) is) (sym older_so)
    (subst (λ ns. AreLinked (hs ++ c.args.hash ∷ []) ns (os ++ o ∷ [])) (sym set_at)
    (AreLinked-push hs c.args.hash newest os o c.requires.some at linked)))
