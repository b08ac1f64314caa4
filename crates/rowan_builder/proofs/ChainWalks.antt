-- A walk along a chain of places, to the first with a hash.
use Rattle.std.proofs.Common.{◌≡◌, ℕ, zero, suc, ◌<◌, ◌≤◌, List, [], ◌∷◌, length, map, Option, Some}
use Rattle.std.proofs.Common.{None, get_or, refl, sym, ◌∙◌, ap, inl, inr, arith}
use Rattle.std.specs.List.{slice_get}
use Rattle.std.proofs.lemmas.Bool.{cases_eq}
use Rattle.std.proofs.lemmas.List.{length-map}
use Rattle.std.proofs.lemmas.Option.{slice_get_read, slice_get_within}
use Rattle.rowan_builder.specs.declared.node_cache.chains.ChainLink.{ChainLink}
use Rattle.rowan_builder.specs.Chains.{bucket, hashes_of, older_of, IsUpTo, IsNewest}
use Rattle.rowan_builder.specs.Chains.{IsOnChain, AreLinked}
use Rattle.rowan_terms.proofs.Lists.{at_map}
use Rattle.rowan_builder.proofs.TableLemmas.{left_before}

at_within : {X : Type 0} (xs : List X) (n : ℕ) → n < length xs → (x : X) × (slice_get xs n ≡ Some x)
at_within [] n within = absurd (omega (arith, within))
at_within (x ∷ xs) zero within = (x, refl)
at_within (x ∷ xs) (suc n) within = at_within xs n (omega (arith, within))

-- ---- what stands at a place that was read

module _ (ps : List ChainLink) (n : ℕ) (p : ChainLink) (below : n < length (hashes_of ps))
    (read : p ≡ get_or ps n p) where
  stands_at : slice_get ps n ≡ Some p
  stands_at =
      slice_get_read ps (length ps) n p refl
      (omega (arith, below, length-map ps (λ (q : ChainLink). q.hash))) read

  pub hash_at : slice_get (hashes_of ps) n ≡ Some p.hash
  hash_at = at_map (λ (q : ChainLink). q.hash) ps n p stands_at

  pub older_at : slice_get (older_of ps) n ≡ Some p.older
  older_at = at_map (λ (q : ChainLink). q.older) ps n p stands_at

-- the next place is in the bucket, and each place with the hash is there or before it
pub record IsAheadOn (bs hashes : List ℕ) (bound b hash : ℕ) (next : Option ℕ) : Type 0 where
  pub stands : (n : ℕ) → next ≡ Some n → (n < bound) × (slice_get bs n ≡ Some b)
  pub last : (n : ℕ) → n < bound → slice_get hashes n ≡ Some hash → IsUpTo n next

-- a walk that began at one link and goes on at another
pub record IsWalk (hashes : List ℕ) (older : List (Option ℕ)) (hash : ℕ)
    (first next : Option ℕ) : Type 0 where
  pub chain : IsOnChain hashes older next
  pub ahead : (newest : List (Option ℕ)) (bound : ℕ) → AreLinked hashes newest older
      → IsNewest (map (bucket (length newest)) hashes) bound (bucket (length newest) hash) first
      → IsAheadOn (map (bucket (length newest)) hashes) hashes bound (bucket (length newest) hash)
      hash next

module _ (hashes : List ℕ) (older : List (Option ℕ)) (hash : ℕ) where
  in_bucket : (count n : ℕ) → slice_get hashes n ≡ Some hash
      → slice_get (map (bucket count) hashes) n ≡ Some (bucket count hash)
  in_bucket count n at = at_map (bucket count) hashes n hash at

  pub IsWalk-first : (first : Option ℕ) → IsOnChain hashes older first
      → IsWalk hashes older hash first first
  IsWalk-first first c = record {
    chain = c;
    ahead = λ newest bound linked s. record {
      stands = s.stands;
      last = λ n below at. s.last n below (in_bucket (length newest) n at);
    };
  }

  pub IsWalk-older : (first : Option ℕ) (place other : ℕ) (o : Option ℕ)
      → IsWalk hashes older hash first (Some place) → slice_get hashes place ≡ Some other
      → (other ≡ hash → ⊥)
      → slice_get older place ≡ Some o → IsWalk hashes older hash first o
  IsWalk-older first place other o w at apart at_older = record {
    chain = record {
      count = w.chain.count;
      within = λ m e.
          let lower : m < place = w.chain.falls place m (at_older ∙ ap (λ q. Some q) e) in
          omega (arith, lower, w.chain.within place refl);
      falls = w.chain.falls;
    };
    ahead = λ newest bound linked s.
        let bs = map (bucket (length newest)) hashes in
        let b = bucket (length newest) hash in
        let was : IsAheadOn bs hashes bound b hash (Some place) = w.ahead newest bound linked s in
        let here = was.stands place refl in
        let rest : IsNewest bs place b o = linked.rest place b o here.1 at_older in
        record {
          stands = λ m e. let p = rest.stands m e in (omega (arith, p.0, here.0), p.1);
          last = λ n below at_n.
              let upto : n ≤ place = was.last n below at_n in
              elim (cases_eq n place) [
                | inl same ↦
                    let both : Some other ≡ Some hash =
                    sym at ∙ ap (slice_get hashes) (sym same) ∙ at_n in
                    absurd (apart cc)
                | inr other_place ↦ rest.last n (omega (arith, upto, other_place))
                    (in_bucket (length newest) n at_n)
              ];
        };
  }

  module _ (newest : List (Option ℕ)) (bound : ℕ) (first : Option ℕ)
      (linked : AreLinked hashes newest older)
      (s : IsNewest (map (bucket (length newest)) hashes) bound (bucket (length newest) hash) first)
    where
      pub walk_found : (place : ℕ) → IsWalk hashes older hash first (Some place)
          → slice_get hashes place ≡ Some hash → IsNewest hashes bound hash (Some place)
      walk_found place w at =
          let a = w.ahead newest bound linked s in
          record {
            stands = λ n e.
                let is : place ≡ n = cc in
                ((a.stands n e).0, ap (slice_get hashes) (sym is) ∙ at);
            last = a.last;
          }

      pub walk_ended : IsWalk hashes older hash first None → IsNewest hashes bound hash None
      walk_ended w = record {
        stands = λ n e. absurd cc;
        last = (w.ahead newest bound linked s).last;
      }

-- each step goes on at an older place
pub walk_left : (hashes : List ℕ) (older : List (Option ℕ)) (place : ℕ) (o : Option ℕ)
    → IsOnChain hashes older (Some place) → slice_get older place ≡ Some o
    → left_before o < left_before (Some place)
walk_left hashes older place o c at =
    elim o as (λ q. slice_get older place ≡ Some q → left_before q < suc place) [
      | None ↦ λ at. omega arith
      | Some m ↦ λ at. let lower : m < place = c.falls place m at in omega (arith, lower)
    ] at

-- ---- where a walk begins

module _ (hashes : List ℕ) (newest older : List (Option ℕ)) (l : AreLinked hashes newest older)
  where
    falls : (n m : ℕ) → slice_get older n ≡ Some (Some m) → m < n
    falls n m at =
        let bs = map (bucket (length newest)) hashes in
        let within : n < length bs =
        omega (
          arith,
          slice_get_within older n (Some m) at,
          l.count,
          length-map hashes (bucket (length newest)),
        ) in
        let p = at_within bs n within in
        ((l.rest n p.0 (Some m) p.1 at).stands m refl).0

    pub IsOnChain-newest : (b : ℕ) (o : Option ℕ) → slice_get newest b ≡ Some o
        → IsOnChain hashes older o
    IsOnChain-newest b o at = record {
      count = l.count;
      within = λ n e. ((l.first b o at).stands n e).0;
      falls = falls;
    }

    pub IsOnChain-older : (n : ℕ) (o : Option ℕ) → slice_get older n ≡ Some o
        → IsOnChain hashes older o
    IsOnChain-older n o at = record {
      count = l.count;
      within = λ m e. let lower : m < n = falls n m (at ∙ ap (λ q. Some q) e) in
          omega (arith, lower, slice_get_within older n o at, l.count);
      falls = falls;
    }

    pub IsNewest-older : (n h : ℕ) (o : Option ℕ) → slice_get hashes n ≡ Some h
        → slice_get older n ≡ Some o
        → IsNewest (map (bucket (length newest)) hashes) n (bucket (length newest) h) o
    IsNewest-older n h o at at_older =
        l.rest n (bucket (length newest) h) o
        (at_map (bucket (length newest)) hashes n h at) at_older

pub IsNewest-none : (hashes : List ℕ) (hash : ℕ) → length hashes ≤ 0
    → IsNewest hashes (length hashes) hash None
IsNewest-none hashes hash none =
    record { stands = λ n e. absurd cc; last = λ n below at. absurd (omega (arith, below, none)) }
