use Rattle.std.proofs.Common.{◌<◌, Some, None, refl, sym, ◌∙◌, ap, subst}
use Rattle.rowan_builder.specs.declared.node_cache.chains.ChainLink.{ChainLink}
use Rattle.rowan_builder.specs.Chains.{hashes_of, older_of}
use Rattle.rowan_builder.proofs.ChainWalks.{IsWalk, IsWalk-first, IsWalk-older, walk_found}
use Rattle.rowan_builder.proofs.ChainWalks.{walk_ended, walk_left, hash_at, older_at}
use Rattle.rowan_builder.proofs.TableLemmas.{left_before}
use Rattle.rowan_builder.proofs.node_cache.chains.place_with.Goals as goal

pub loop-next-init : goal.loop-next-init
loop-next-init c =
    let hs = hashes_of c.args.places.now in
    let os = older_of c.args.places.now in
    subst (λ o. IsWalk hs os c.args.hash c.args.next o) (sym c.number-next.ensures)
    (IsWalk-first hs os c.args.hash c.args.next c.requires)

pub returns-then-place-hash : goal.returns-then-place-hash
returns-then-place-hash c = λ newest bound linked s.
    let ps = c.args.places.now in
    let hs = hashes_of ps in
    let os = older_of ps in
    let p : ChainLink = c.index-places-number.result in
    let walk : IsWalk hs os c.args.hash c.args.next (Some c.in-Some.number) =
    subst (λ o. IsWalk hs os c.args.hash c.args.next o) c.in-Some.is c.loop-next.invariant in
    let below = walk.chain.within c.in-Some.number refl in
    walk_found hs os c.args.hash newest bound c.args.next linked s c.in-Some.number walk
    (hash_at ps c.in-Some.number p below c.index-places-number.is
    ∙ ap (λ x. Some x) c.if-place-hash.true)

pub loop-next-smaller : goal.loop-next-smaller
loop-next-smaller c =
    let ps = c.args.places.now in
    let hs = hashes_of ps in
    let os = older_of ps in
    let p : ChainLink = c.index-places-number.result in
    let walk : IsWalk hs os c.args.hash c.args.next (Some c.in-Some.number) =
    subst (λ o. IsWalk hs os c.args.hash c.args.next o) c.in-Some.is c.loop-next.invariant in
    let below = walk.chain.within c.in-Some.number refl in
    let link = older_at ps c.in-Some.number p below c.index-places-number.is in
    subst (λ o. left_before c.number-next-in-Some.result < left_before o) (sym c.in-Some.is)
    (walk_left hs os c.in-Some.number c.number-next-in-Some.result walk.chain
    (link ∙ ap (λ o. Some o) (sym c.number-next-in-Some.ensures)))

pub loop-next-preserved : goal.loop-next-preserved
loop-next-preserved c =
    let ps = c.args.places.now in
    let hs = hashes_of ps in
    let os = older_of ps in
    let p : ChainLink = c.index-places-number.result in
    let walk : IsWalk hs os c.args.hash c.args.next (Some c.in-Some.number) =
    subst (λ o. IsWalk hs os c.args.hash c.args.next o) c.in-Some.is c.loop-next.invariant in
    let below = walk.chain.within c.in-Some.number refl in
    let link = older_at ps c.in-Some.number p below c.index-places-number.is in
    IsWalk-older hs os c.args.hash c.args.next c.in-Some.number p.hash c.number-next-in-Some.result
    walk
    (hash_at ps c.in-Some.number p below c.index-places-number.is) c.if-place-hash.false
    (link ∙ ap (λ o. Some o) (sym c.number-next-in-Some.ensures))

pub returns : goal.returns
returns c = λ newest bound linked s.
    let hs = hashes_of c.args.places.now in
    let os = older_of c.args.places.now in
    let walk : IsWalk hs os c.args.hash c.args.next None =
    subst (λ o. IsWalk hs os c.args.hash c.args.next o) c.in_default.is c.loop-next.invariant in
    walk_ended hs os c.args.hash newest bound c.args.next linked s walk
