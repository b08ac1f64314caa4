-- Chains of places: none at first, and one more place.
use Rattle.std.proofs.Common.{◌≡◌, ℕ, zero, suc, ◌+◌, ◌-◌, ◌<◌, ◌≤◌, List, [], ◌∷◌, ◌++◌, length}
use Rattle.std.proofs.Common.{map, replicate, Option, Some, None, refl, sym, ◌∙◌, ap, subst, inl}
use Rattle.std.proofs.Common.{inr, arith}
use Rattle.std.specs.List.{slice_get}
use Rattle.std.proofs.Math.ListN.{set}
use Rattle.std.proofs.lemmas.Bool.{cases_eq}
use Rattle.std.proofs.lemmas.Nat.{and_le_r}
use Rattle.std.proofs.lemmas.List.{length-map, length-append, map-append, length-set}
use Rattle.std.proofs.lemmas.List.{get_or-replicate, length-replicate}
use Rattle.std.proofs.lemmas.Option.{slice_get_within, get_or_from_slice_get}
use Rattle.rowan_builder.specs.Chains.{bucket, IsNewest, AreLinked}
use Rattle.rowan_terms.proofs.Lists.{slice_get-grown, slice_get-last, slice_get-cases}

-- ---- a list with another item at a place

set_here : {X : Type 0} (xs : List X) (n : ℕ) (x : X) → n < length xs
    → slice_get (set xs n x) n ≡ Some x
set_here [] n x within = absurd (omega (arith, within))
set_here (y ∷ xs) zero x within = refl
set_here (y ∷ xs) (suc n) x within = set_here xs n x (omega (arith, within))

set_there : {X : Type 0} (xs : List X) (n m : ℕ) (x : X) → (m ≡ n → ⊥)
    → slice_get (set xs n x) m ≡ slice_get xs m
set_there [] n m x apart = refl
set_there (y ∷ xs) zero zero x apart = absurd (apart refl)
set_there (y ∷ xs) zero (suc m) x apart = refl
set_there (y ∷ xs) (suc n) zero x apart = refl
set_there (y ∷ xs) (suc n) (suc m) x apart = set_there xs n m x (λ e. apart (ap suc e))

-- ---- no place

pub AreLinked-none : (count : ℕ) → AreLinked [] (replicate count None) []
AreLinked-none count = record {
  count = refl;
  first = λ b o at.
      let empty : Option ℕ = None in
      let within : b < count = omega
      (arith, slice_get_within (replicate count empty) b o at, length-replicate count empty) in
      let is_none : o ≡ None = sym (get_or_from_slice_get (replicate count None) b o None at)
      ∙ get_or-replicate count b None None within in
      subst (λ q. IsNewest [] 0 b q) (sym is_none)
      (record {
        stands = λ n e. absurd cc;
        last =
            λ n below at. absurd (omega (arith, below));
      });
  rest = λ n b o at. absurd cc;
}

-- ---- one more place

-- the bucket of a hash is one of the buckets
pub bucket-within : (count hash : ℕ) → 0 < count → bucket count hash < count
bucket-within count hash some = omega (arith, some, and_le_r hash (count - 1))

module _ (count : ℕ) (hs : List ℕ) (hash : ℕ) where
  abbrev bs : List ℕ
  bs = map (bucket count) hs

  abbrev here : ℕ
  here = bucket count hash

  bs-length : length bs ≡ length hs
  bs-length = length-map hs (bucket count)

  IsNewest-grown : (bound b : ℕ) (o : Option ℕ) → bound ≤ length hs → IsNewest bs bound b o
      → IsNewest (bs ++ here ∷ []) bound b o
  IsNewest-grown bound b o within s = record {
    stands = λ n e. let p = s.stands n e in (p.0, slice_get-grown bs (here ∷ []) n b p.1);
    last = λ n below at.
        elim (slice_get-cases bs here n b at) [
          | inl old ↦ s.last n below old
          | inr p ↦ absurd (omega (arith, below, within, p.0, bs-length))
        ];
  }

  new_first : IsNewest (bs ++ here ∷ []) (length hs + 1) here (Some (length hs))
  new_first = record {
    stands = λ n e.
        let at : length hs ≡ n = cc in (
          omega (arith, at),
          ap (slice_get (bs ++ here ∷ [])) (sym at ∙ sym bs-length)
              ∙ slice_get-last bs here,
        );
    last = λ n below at. omega (arith, below);
  }

  other_first : (b : ℕ) (o : Option ℕ) → (b ≡ here → ⊥) → IsNewest bs (length hs) b o
      → IsNewest (bs ++ here ∷ []) (length hs + 1) b o
  other_first b o apart s = record {
    stands = λ n e. let p = s.stands n e in
        (omega (arith, p.0), slice_get-grown bs (here ∷ []) n b p.1);
    last = λ n below at.
        elim (slice_get-cases bs here n b at) [
          | inl old ↦ s.last n (omega (arith, slice_get_within bs n b old, bs-length)) old
          | inr p ↦ absurd (apart (sym p.1))
        ];
  }

  module _ (newest older : List (Option ℕ)) (o : Option ℕ) (counted : length older ≡ length hs)
      (within : here < length newest) (at_here : slice_get newest here ≡ Some o)
      (first : (b : ℕ) (q : Option ℕ) → slice_get newest b ≡ Some q → IsNewest bs (length hs) b q)
      (rest : (n b : ℕ) (q : Option ℕ) → slice_get bs n ≡ Some b → slice_get older n ≡ Some q
      → IsNewest bs n b q) where
    first-push : (b : ℕ) (q : Option ℕ)
        → slice_get (set newest here (Some (length older))) b ≡ Some q
        → IsNewest (bs ++ here ∷ []) (length hs + 1) b q
    first-push b q at =
        elim (cases_eq b here) [
          | inl same ↦
              let both : Some (Some (length older)) ≡ Some q =
              sym (set_here newest here (Some (length older)) within)
              ∙ ap (slice_get (set newest here (Some (length older)))) (sym same) ∙ at in
              let is : Some (length older) ≡ q = cc in
              subst (λ r. IsNewest (bs ++ here ∷ []) (length hs + 1) b r) is
              (subst (λ j. IsNewest (bs ++ here ∷ []) (length hs + 1) j (Some (length older)))
              (sym same) (subst (λ n. IsNewest (bs ++ here ∷ []) (length hs + 1) here (Some n))
              (sym counted) new_first))
          | inr apart ↦ other_first b q apart
              (first b q (sym (set_there newest here b (Some (length older)) apart) ∙ at))
        ]

    rest-push : (n b : ℕ) (q : Option ℕ) → slice_get (bs ++ here ∷ []) n ≡ Some b
        → slice_get (older ++ o ∷ []) n ≡ Some q → IsNewest (bs ++ here ∷ []) n b q
    rest-push n b q at at_older =
        elim (slice_get-cases bs here n b at) [
          | inl old ↦ elim (slice_get-cases older o n q at_older) [
            | inl was ↦ IsNewest-grown n b q (omega (arith, slice_get_within bs n b old, bs-length))
                (rest n b q old was)
            | inr p ↦ absurd (omega (arith, slice_get_within bs n b old, bs-length, p.0, counted))
          ]
          | inr p ↦ elim (slice_get-cases older o n q at_older) [
            | inl was ↦ absurd (omega
                (arith, slice_get_within older n q was, p.0, bs-length, counted))
            | inr r ↦
                let at_end : IsNewest (bs ++ here ∷ []) (length hs) here o =
                IsNewest-grown (length hs) here o (omega arith) (first here o at_here) in
                subst (λ x. IsNewest (bs ++ here ∷ []) n b x) r.1
                (subst (λ j. IsNewest (bs ++ here ∷ []) n j o) p.1
                (subst (λ m. IsNewest (bs ++ here ∷ []) m here o) (sym (p.0 ∙ bs-length))
                at_end))
          ]
        ]

pub AreLinked-push : (hs : List ℕ) (hash : ℕ) (newest older : List (Option ℕ)) (o : Option ℕ)
    → 0 < length newest → slice_get newest (bucket (length newest) hash) ≡ Some o
    → AreLinked hs newest older
    → AreLinked (hs ++ hash ∷ [])
    (set newest (bucket (length newest) hash) (Some (length older))) (older ++ o ∷ [])
AreLinked-push hs hash newest older o some at l =
    let count = length newest in
    let here = bucket count hash in
    let within = bucket-within count hash some in
    let newest' = set newest here (Some (length older)) in
    let same : length newest' ≡ count = length-set newest here (Some (length older)) in
    let parts : map (bucket (length newest')) (hs ++ hash ∷ []) ≡ map (bucket count) hs ++ here
    ∷ [] = ap (λ n. map (bucket n) (hs ++ hash ∷ [])) same
    ∙ map-append (bucket count) hs (hash ∷ []) in
    let longer : length (hs ++ hash ∷ []) ≡ length hs + 1 = length-append hs (hash ∷ []) in
    record {
      count = omega (arith, l.count, length-append older (o ∷ []), longer);
      first = λ b q e.
          subst (λ is. IsNewest is (length (hs ++ hash ∷ [])) b q) (sym parts)
          (subst (λ n. IsNewest (map (bucket count) hs ++ here ∷ []) n b q) (sym longer)
          (first-push count hs hash newest older o l.count within at l.first l.rest b q e));
      rest = λ n b q e f.
          subst (λ is. IsNewest is n b q) (sym parts)
          (rest-push count hs hash newest older o l.count within at l.first l.rest n b q
          (ap (λ is. slice_get is n) (sym parts) ∙ e) f);
    }
