-- Laws of the list of terms that a cache keeps.
use Rattle.std.proofs.Common.{◌≡◌, ℕ, zero, suc, Bool, true, false, cond, ◌&&◌, ◌||◌, List, [], ◌∷◌}
use Rattle.std.proofs.Common.{◌++◌, length, Some, refl, sym, ◌∙◌, ap, subst, ◌⊎◌, inl, inr}
use Rattle.std.proofs.Common.{append_assoc}
use Rattle.std.specs.Prelude.{Contains, IsTrue, ◌↔◌, fold}
use Rattle.std.specs.List.{slice_get}
use Rattle.std.specs.Cmp.{IsEquivalence, decided}
use Rattle.std.proofs.Math.Bool.{or-false}
use Rattle.std.proofs.lemmas.Bool.{cases_Bool, false≢true, and_parts, or_cases, both_ways}
use Rattle.std.proofs.lemmas.List.{append-nil}
use Rattle.std.proofs.lemmas.List.Folds.{list_any-append}
use Rattle.std.proofs.lemmas.List.Sums.{fold-append}
use Rattle.std.proofs.lemmas.Map.Views.{list_any-from_Contains, Contains-from_any}
use Rattle.rowan_green.specs.Term.{Term}
use Rattle.rowan_green.specs.Same.{same_term, same_term-decides}
use Rattle.rowan_builder.specs.Cache.{CacheValue, intern, is_eligible, is_among, with_term}
use Rattle.rowan_builder.specs.Cache.{first_seen, Continues}
use Rattle.rowan_terms.proofs.Lists.{slice_get-grown, slice_get-last, slice_get-cases}

-- ---- being among terms

same_term-refl : (t : Term) → same_term t t ≡ true
same_term-refl t = (same_term-decides t t).1 refl

same_term-laws : IsEquivalence same_term
same_term-laws = decided same_term same_term-decides

pub is_among-at : (ts : List Term) (n : ℕ) (t : Term) → slice_get ts n ≡ Some t
    → is_among ts t ≡ true
is_among-at [] n t e = absurd cc
is_among-at (u ∷ ts) zero t e = let s : t ≡ u = cc in rw ((same_term-decides t u).1 s) refl
is_among-at (u ∷ ts) (suc n) t e =
    rw (is_among-at ts n t e)
    (elim (same_term t u) as (λ b. (b || true) ≡ true) [ true ↦ refl | false ↦ refl ])

pub place_from_is_among : (ts : List Term) (t : Term) → is_among ts t ≡ true
    → (n : ℕ) × (slice_get ts n ≡ Some t)
place_from_is_among [] t e = absurd (false≢true e)
place_from_is_among (u ∷ ts) t e =
    elim (or_cases (same_term t u) (is_among ts t) e) [
      | inl h ↦ (0, ap (λ x. Some x) (sym ((same_term-decides t u).0 h)))
      | inr h ↦ let p = place_from_is_among ts t h in (suc p.0, p.1)
    ]

pub is_among-Contains : (ts : List Term) (t : Term) → Contains ts t → is_among ts t ≡ true
is_among-Contains ts t h = list_any-from_Contains same_term-laws t ts h

pub Contains-is_among : (ts : List Term) (t : Term) → is_among ts t ≡ true → Contains ts t
Contains-is_among ts t h = Contains-from_any (λ x y. (same_term-decides x y).0) t ts h

-- ---- one more term

pub with_term-fresh : (limit : ℕ) (seen : List Term) (t : Term) → is_eligible limit t ≡ true
    → is_among seen t ≡ false → with_term limit seen t ≡ seen ++ t ∷ []
with_term-fresh limit seen t e a = rw (e, a) refl

pub with_term-known : (limit : ℕ) (seen : List Term) (t : Term) → is_among seen t ≡ true
    → with_term limit seen t ≡ seen
with_term-known limit seen t a =
    rw a (elim (is_eligible limit t) as (λ b. cond (b && false) (seen ++ t ∷ []) seen ≡ seen)
    [ true ↦ refl | false ↦ refl ])

pub with_term-ineligible : (limit : ℕ) (seen : List Term) (t : Term) → is_eligible limit t ≡ false
    → with_term limit seen t ≡ seen
with_term-ineligible limit seen t e = rw e refl

-- what is asked of both outcomes
with_term-by : (P : List Term → Type 0) (limit : ℕ) (seen : List Term) (t : Term) → P seen
    → (is_eligible limit t ≡ true → is_among seen t ≡ false → P (seen ++ t ∷ []))
    → P (with_term limit seen t)
with_term-by P limit seen t stays grows =
    elim (cases_Bool (is_eligible limit t)) [
      | inr no_fit ↦ subst P (sym (with_term-ineligible limit seen t no_fit)) stays
      | inl fit ↦ elim (cases_Bool (is_among seen t)) [
        | inl known ↦ subst P (sym (with_term-known limit seen t known)) stays
        | inr fresh ↦ subst P (sym (with_term-fresh limit seen t fit fresh)) (grows fit fresh)
      ]
    ]

pub Continues-with_term : (limit : ℕ) (seen : List Term) (t : Term)
    → Continues seen (with_term limit seen t)
Continues-with_term limit seen t =
    with_term-by (λ us. Continues seen us) limit seen t
    (record { more = []; goes_on = sym (append-nil seen) })
    (λ fit fresh. record { more = t ∷ []; goes_on = refl })

pub Continues-trans : (xs ys zs : List Term) → Continues xs ys → Continues ys zs → Continues xs zs
Continues-trans xs ys zs f g =
    record {
      more = f.more ++ g.more;
      goes_on =
          g.goes_on ∙ ap (λ us. us ++ g.more) f.goes_on ∙ append_assoc xs f.more g.more;
    }

Continues-fold : (limit : ℕ) (seen ts : List Term) → Continues seen (fold (with_term limit) seen ts)
Continues-fold limit seen [] = record { more = []; goes_on = sym (append-nil seen) }
Continues-fold limit seen (t ∷ ts) =
    Continues-trans seen (with_term limit seen t)
    (fold (with_term limit) (with_term limit seen t) ts) (Continues-with_term limit seen t)
    (Continues-fold limit (with_term limit seen t) ts)

-- a longer list's first terms begin with the shorter one's
pub first_seen-continues : (limit : ℕ) (ts us : List Term)
    → Continues (first_seen limit ts) (first_seen limit (ts ++ us))
first_seen-continues limit ts us =
    subst (λ vs. Continues (first_seen limit ts) vs) (sym (fold-append (with_term limit) [] ts us))
    (Continues-fold limit (first_seen limit ts) us)

-- for a list that is its own first terms
pub first_seen-push : (limit : ℕ) (seen : List Term) (t : Term) → first_seen limit seen ≡ seen
    → with_term limit seen t ≡ first_seen limit (seen ++ t ∷ [])
first_seen-push limit seen t e =
    sym (fold-append (with_term limit) [] seen (t ∷ []) ∙ ap (λ ts. with_term limit ts t) e)

pub first_seen-fresh : (limit : ℕ) (seen : List Term) (t : Term) → first_seen limit seen ≡ seen
    → is_eligible limit t ≡ true → is_among seen t ≡ false
    → first_seen limit (seen ++ t ∷ []) ≡ seen ++ t ∷ []
first_seen-fresh limit seen t e fit fresh =
    sym (first_seen-push limit seen t e) ∙ with_term-fresh limit seen t fit fresh

-- ---- no repeats

abbrev pub StandsOnce : List Term → Type 0
StandsOnce ts = (i j : ℕ) (t : Term) → slice_get ts i ≡ Some t → slice_get ts j ≡ Some t → i ≡ j

pub StandsOnce-push : (ts : List Term) (t : Term) → StandsOnce ts → is_among ts t ≡ false
    → StandsOnce (ts ++ t ∷ [])
StandsOnce-push ts t once fresh = λ i j u at_i at_j.
    elim (slice_get-cases ts t i u at_i) [
      | inl hi ↦ elim (slice_get-cases ts t j u at_j) [
        | inl hj ↦ once i j u hi hj
        | inr pj ↦ absurd (both_ways (is_among ts t) fresh
            (is_among-at ts i t (subst (λ v. slice_get ts i ≡ Some v) (sym pj.1) hi)))
      ]
      | inr pi ↦ elim (slice_get-cases ts t j u at_j) [
        | inl hj ↦ absurd (both_ways (is_among ts t) fresh
            (is_among-at ts j t (subst (λ v. slice_get ts j ≡ Some v) (sym pi.1) hj)))
        | inr pj ↦ pi.0 ∙ sym pj.0
      ]
    ]

StandsOnce-fold : (limit : ℕ) (seen ts : List Term) → StandsOnce seen
    → StandsOnce (fold (with_term limit) seen ts)
StandsOnce-fold limit seen [] once = once
StandsOnce-fold limit seen (t ∷ ts) once =
    StandsOnce-fold limit (with_term limit seen t) ts
    (with_term-by StandsOnce limit seen t once (λ fit fresh. StandsOnce-push seen t once fresh))

pub first_seen-once : (limit : ℕ) (ts : List Term) → StandsOnce (first_seen limit ts)
first_seen-once limit ts = StandsOnce-fold limit [] ts (λ i j t at_i at_j. absurd cc)

-- ---- which terms are first seen

regroup : (a s r e : Bool) → ((a || (s && e)) || (r && e)) ≡ (a || ((s || r) && e))
regroup true s r e = refl
regroup false true r true = refl
regroup false true r false = elim r as (λ b. (b && false) ≡ false) [ true ↦ refl | false ↦ refl ]
regroup false false r e = refl

is_among-push : (seen : List Term) (u t : Term)
    → is_among (seen ++ u ∷ []) t ≡ (is_among seen t || same_term t u)
is_among-push seen u t = list_any-append (same_term t) seen (u ∷ [])
    ∙ ap (λ b. is_among seen t || b) (or-false (same_term t u))

is_among-with_term : (limit : ℕ) (seen : List Term) (u t : Term)
    → is_among (with_term limit seen u) t
    ≡ (is_among seen t || (same_term t u && is_eligible limit t))
is_among-with_term limit seen u t =
    elim (cases_Bool (same_term t u)) [
      | inl same ↦
          let e = (same_term-decides t u).0 same in
          rw same (
          subst (λ v. is_among (with_term limit seen v) t
          ≡ (is_among seen t || is_eligible limit t)) e (
          elim (cases_Bool (is_eligible limit t)) [
            | inr no_fit ↦ ap (λ us. is_among us t) (with_term-ineligible limit seen t no_fit)
                ∙ sym (or-false (is_among seen t)) ∙ ap (λ b. is_among seen t || b) (sym no_fit)
            | inl fit ↦ elim (cases_Bool (is_among seen t)) [
              | inl known ↦ ap (λ us. is_among us t) (with_term-known limit seen t known) ∙ known
                  ∙ ap (λ b. b || is_eligible limit t) (sym known)
              | inr fresh ↦ ap (λ us. is_among us t) (with_term-fresh limit seen t fit fresh)
                  ∙ is_among-push seen t t ∙ ap (λ b. is_among seen t || b)
                  (same_term-refl t ∙ sym fit)
            ]
          ]
          )
          )
      | inr apart ↦
          rw apart (
          with_term-by (λ us. is_among us t ≡ (is_among seen t || false)) limit seen u
          (sym (or-false (is_among seen t)))
          (λ fit fresh. is_among-push seen u t ∙ ap (λ b. is_among seen t || b) apart)
          )
    ]

is_among-fold : (limit : ℕ) (seen ts : List Term) (t : Term)
    → is_among (fold (with_term limit) seen ts) t
    ≡ (is_among seen t || (is_among ts t && is_eligible limit t))
is_among-fold limit seen [] t = sym (or-false (is_among seen t))
is_among-fold limit seen (u ∷ ts) t =
    is_among-fold limit (with_term limit seen u) ts t
    ∙ ap (λ b. b || (is_among ts t && is_eligible limit t)) (is_among-with_term limit seen u t)
    ∙ regroup (is_among seen t) (same_term t u) (is_among ts t) (is_eligible limit t)

-- a term is first seen exactly where it is in the list and eligible
pub first_seen-Contains : (limit : ℕ) (ts : List Term) (t : Term)
    → Contains (first_seen limit ts) t ↔ (Contains ts t × IsTrue (is_eligible limit t))
first_seen-Contains limit ts t = (
  (λ h.
      let p = and_parts (is_among ts t) (is_eligible limit t)
      (sym (is_among-fold limit [] ts t) ∙ is_among-Contains (first_seen limit ts) t h) in
      (Contains-is_among ts t p.0, p.1)),
  (λ p. Contains-is_among (first_seen limit ts) t
      (is_among-fold limit [] ts t ∙ rw (is_among-Contains ts t p.0, p.1) refl)),
)

-- what is kept is eligible
pub kept_is_eligible : (limit : ℕ) (seen : List Term) (place : ℕ) (t : Term)
    → first_seen limit seen ≡ seen → slice_get seen place ≡ Some t → is_eligible limit t ≡ true
kept_is_eligible limit seen place t first at =
    ((first_seen-Contains limit seen t).0
    (subst (λ ts. Contains ts t) (sym first)
    (Contains-is_among seen t (is_among-at seen place t at)))).1

-- ---- a cache that was asked for a term

pub intern-known : (cache : CacheValue) (place : ℕ) (t : Term) → slice_get cache.seen place ≡ Some t
    → cache ≡ intern cache t
intern-known cache place t e =
    ap (λ ts. record { limit = cache.limit; seen = ts })
    (sym (with_term-known cache.limit cache.seen t (is_among-at cache.seen place t e)))

pub intern-ineligible : (cache : CacheValue) (t : Term) → is_eligible cache.limit t ≡ false
    → cache ≡ intern cache t
intern-ineligible cache t e =
    ap (λ ts. record { limit = cache.limit; seen = ts })
    (sym (with_term-ineligible cache.limit cache.seen t e))

pub intern-fresh : (cache : CacheValue) (t : Term) → is_eligible cache.limit t ≡ true
    → is_among cache.seen t ≡ false
    → record { limit = cache.limit; seen = cache.seen ++ t ∷ [] } ≡ intern cache t
intern-fresh cache t fit fresh =
    ap (λ ts. record { limit = cache.limit; seen = ts })
    (sym (with_term-fresh cache.limit cache.seen t fit fresh))
