use Rattle.std.proofs.Common.{◌≡◌, ◌+◌, ◌++◌, ◌∷◌, [], Some, false, ◌∙◌, ap, sym, subst, refl}
use Rattle.std.proofs.Common.{arith}
use Rattle.std.specs.List.{slice_get}
use Rattle.rowan_green.specs.declared.utility_types.NodeOrToken.TheVariants.{Token}
use Rattle.rowan_green.specs.Term.{Term, token_of}
use Rattle.rowan_builder.specs.Bytes.{AreOfBytes}
use Rattle.rowan_builder.specs.Cache.{CacheValue, intern, is_among}
use Rattle.rowan_builder.specs.Tables.{IsCounted}
use Rattle.rowan_builder.proofs.ByteLemmas.{AreOfBytes-from, AreOfBytes-set}
use Rattle.rowan_terms.proofs.Lists.{slice_get-last}
use Rattle.rowan_builder.proofs.CacheLemmas.{intern-known, first_seen-fresh}
use Rattle.rowan_builder.proofs.CountLemmas.{count_tokens-push}
use Rattle.rowan_builder.proofs.node_cache.NodeCache.token.Goals as goal

-- ---- a token of one byte

pub returns-in_err-share_at-clause-too_long : goal.returns-in_err-share_at-clause-too_long
returns-in_err-share_at-clause-too_long c = λ long.
    let t : Term = Token (token_of c.args.kind.0 c.args.text.now) in
    let stands : slice_get c.self.inside.table c.in-Some.number ≡ Some t =
    ap (λ (v : CacheValue). slice_get v.seen c.in-Some.number) c.self.view_is
    ∙ c.in-Some.ensures in
    absurd (omega (arith, c.share_at.ensures.fits t stands))

pub returns-in-Some-clause-kept : goal.returns-in-Some-clause-kept
returns-in-Some-clause-kept c =
    let cache : CacheValue = record { limit = c.self.inside.limit; seen = c.self.inside.table } in
    let t : Term = Token (token_of c.args.kind.0 c.args.text.now) in
    let stands : slice_get cache.seen c.in-Some.number ≡ Some t =
    ap (λ (v : CacheValue). slice_get v.seen c.in-Some.number) c.self.view_is
    ∙ c.in-Some.ensures in
    subst (λ v. v ≡ intern v t) c.self.view_is (intern-known cache c.in-Some.number t stands)

-- ---- another one that the cache keeps

pub returns-in_err-share_at-2-clause-too_long : goal.returns-in_err-share_at-2-clause-too_long
returns-in_err-share_at-2-clause-too_long c = λ long.
    absurd (omega (
      arith,
      c.share_at-in-Some-token_number.ensures.fits
          (Token (token_of c.args.kind.0 c.args.text.now)) c.in-Some-token_number.ensures.some,
    ))

pub returns-in-Some-token_number-clause-kept : goal.returns-in-Some-token_number-clause-kept
returns-in-Some-token_number-clause-kept c =
    let cache : CacheValue = record { limit = c.self.inside.limit; seen = c.self.inside.table } in
    let t : Term = Token (token_of c.args.kind.0 c.args.text.now) in
    subst (λ v. v ≡ intern v t) c.self.view_is
    (intern-known cache c.in-Some-token_number.number t c.in-Some-token_number.ensures.some)

-- ---- a token that is new

pub invariant_of-self-in_err-number : goal.invariant_of-self-in_err-number
invariant_of-self-in_err-number c =
    let s = c.self.inside in (
      subst (λ ts. IsCounted s.limit ts s.token_count) (sym c.in_err-number.ensures.unchanged)
          c.self.invariant.0,
      subst (λ ts. AreOfBytes ts c.reserve.new.self.newest.items)
          (sym c.in_err-number.ensures.unchanged)
          (AreOfBytes-from s.table s.bytes.newest.items c.reserve.new.self.newest.items
          c.self.invariant.1 c.reserve.ensures),
    )

pub invariant_of-self-2 : goal.invariant_of-self-2
invariant_of-self-2 c =
    let s = c.self.inside in
    let t : Term = Token (token_of c.args.kind.0 c.args.text.now) in
    let is : c.in_ok-clone.field-0 ≡ token_of c.args.kind.0 c.args.text.now =
    c.in_ok-clone.ensures.cases ∙ c.in_ok-token.ensures.ok in
    let grown : c.keep.new.self ≡ s.table ++ t ∷ [] =
    c.in_ok-number.ensures.ok ∙ ap (λ u. s.table ++ Token u ∷ []) is in
    let fresh : is_among s.table t ≡ false = c.in_default-token_number.ensures.none refl in
    let reserved = AreOfBytes-from s.table s.bytes.newest.items c.reserve.new.self.newest.items
    c.self.invariant.1 c.reserve.ensures in (
      subst (λ ts. IsCounted s.limit ts (s.token_count + 1)) (sym grown) (record {
        first = first_seen-fresh s.limit s.table t c.self.invariant.0.first refl fresh;
        counted = omega (arith, c.self.invariant.0.counted, count_tokens-push s.table t);
      }),
      subst (λ ts. AreOfBytes ts c.set.new.self.newest.items) (sym grown)
          (AreOfBytes-set s.table c.args.kind.0 c.in_ok-number.number c.args.text.now
          c.reserve.new.self.newest.items c.set.new.self.newest.items reserved c.set.ensures
          c.in_ok-number.ensures.number),
    )

pub returns-clause-number : goal.returns-clause-number
returns-clause-number c =
    let s = c.self.inside in
    let t : Term = Token c.in_ok-token.token in
    let grown : c.keep.new.self ≡ s.table ++ t ∷ [] =
    c.in_ok-number.ensures.ok ∙ ap (λ u. s.table ++ Token u ∷ []) c.in_ok-clone.ensures.cases in
    record {
      numbered = (refl, rw (grown, c.in_ok-number.ensures.number) (slice_get-last s.table t));
    }
