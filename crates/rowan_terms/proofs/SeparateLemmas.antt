-- Paths beside one another, below one another, and in order: how `separate`, `begins` and
-- `stands_before` answer.
use Rattle.std.proofs.Common.{◌≡◌, ◌≢◌, ℕ, Bool, true, false, not, ◌&&◌, [], ◌∷◌, ◌++◌, ◌⊎◌, inl}
use Rattle.std.proofs.Common.{inr, refl, sym, ◌∙◌, ap, true≢false}
use Rattle.std.proofs.Math.Bool.{and_comm}
use Rattle.std.proofs.lemmas.Bool.{cases_eq, cases_order}
use Rattle.rowan_terms.specs.Path.{Path, begins, separate, stands_before}
use Rattle.rowan_terms.proofs.Paths.{begins-same, begins-other}
use Rattle.rowan_terms.proofs.OffsetLemmas.{before_at_less, before_at_same, before_at_greater}

-- Tests of the first place.
separate_at_same : (i : ℕ) (p q : Path) → separate (i ∷ p) (i ∷ q) ≡ separate p q
separate_at_same i p q = ap (λ b. not b && not (begins (i ∷ q) (i ∷ p))) (begins-same i p q)
    ∙ ap (λ b. not (begins p q) && not b) (begins-same i q p)

separate_at_other : (i j : ℕ) (p q : Path) → i ≢ j → separate (i ∷ p) (j ∷ q) ≡ true
separate_at_other i j p q n =
    ap (λ b. not b && not (begins (j ∷ q) (i ∷ p))) (begins-other i j p q n)
    ∙ ap (λ b. not false && not b) (begins-other j i q p (λ e. n (sym e)))

-- separate paths, by the place at which they part
abbrev pub Part : Path → Path → Type 0
Part [] q = ⊥
Part (i ∷ p) [] = ⊥
Part (i ∷ p) (j ∷ q) = (i ≢ j) ⊎ ((i ≡ j) × Part p q)

pub part-separate : (p q : Path) → separate p q ≡ true → Part p q
part-separate [] q h = absurd (true≢false (sym h))
part-separate (i ∷ p) [] h = absurd (true≢false (sym h))
part-separate (i ∷ p) (j ∷ q) h = elim (cases_eq i j) [
  | inl e ↦ inr (
    e,
    part-separate p q
        (sym (separate_at_same i p q) ∙ ap (λ k. separate (i ∷ p) (k ∷ q)) e ∙ h),
  )
  | inr n ↦ inl n
]

pub separate-part : (p q : Path) → Part p q → separate p q ≡ true
separate-part [] q h = absurd h
separate-part (i ∷ p) [] h = absurd h
separate-part (i ∷ p) (j ∷ q) h = elim h [
  | inl n ↦ separate_at_other i j p q n
  | inr r ↦ ap (λ k. separate (i ∷ p) (k ∷ q)) (sym r.0) ∙ separate_at_same i p q
      ∙ separate-part p q r.1
]

pub separate-sym : (p q : Path) → separate p q ≡ separate q p
separate-sym p q = and_comm (not (begins p q)) (not (begins q p))

pub part-sym : (p q : Path) → Part p q → Part q p
part-sym p q h = part-separate q p (separate-sym q p ∙ separate-part p q h)

-- of two paths that are not separate, one begins the other
pub separate-or_begins : (p q : Path) → separate p q ≡ false
    → (begins p q ≡ true) ⊎ (begins q p ≡ true)
separate-or_begins p q h = by (begins p q) (begins q p) refl refl h
  where
    by : (a b : Bool) → begins p q ≡ a → begins q p ≡ b → (not a && not b) ≡ false
        → (begins p q ≡ true) ⊎ (begins q p ≡ true)
    by true b e f h = inl e
    by false true e f h = inr f
    by false false e f h = absurd (true≢false h)

pub separate-begins : (p q : Path) → begins p q ≡ true → separate p q ≡ false
separate-begins p q h = ap (λ b. not b && not (begins q p)) h

pub separate-begun : (p q : Path) → begins q p ≡ true → separate p q ≡ false
separate-begun p q h = separate-sym p q ∙ separate-begins q p h

-- what stands at or below separate paths stands at separate paths, in the same order
pub separate-below : (p q r s : Path) → separate p q ≡ true → separate (p ++ r) (q ++ s) ≡ true
separate-below p q r s h = separate-part (p ++ r) (q ++ s) (below p q (part-separate p q h))
  where
    below : (p q : Path) → Part p q → Part (p ++ r) (q ++ s)
    below [] q h = absurd h
    below (i ∷ p) [] h = absurd h
    below (i ∷ p) (j ∷ q) h = elim h [ inl n ↦ inl n | inr e ↦ inr (e.0, below p q e.1) ]

-- of separate paths, one stands before the other
pub before-part : (p q : Path) → Part p q → stands_before p q ≡ not (stands_before q p)
before-part [] q h = absurd h
before-part (i ∷ p) [] h = absurd h
before-part (i ∷ p) (j ∷ q) h = elim (cases_order i j) [
  | inl e ↦ elim h [
    | inl n ↦ absurd (n e)
    | inr r ↦
        ap (λ k. stands_before (i ∷ p) (k ∷ q)) (sym e) ∙ before_at_same i p q ∙ before-part p q r.1
        ∙ sym (ap not (ap (λ k. stands_before (k ∷ q) (i ∷ p)) (sym e) ∙ before_at_same i q p))
  ]
  | inr (inl l) ↦ before_at_less i j p q l ∙ sym (ap not (before_at_greater j i q p l))
  | inr (inr g) ↦ before_at_greater i j p q g ∙ sym (ap not (before_at_less j i q p g))
]

pub before-separate : (p q : Path) → separate p q ≡ true
    → stands_before p q ≡ not (stands_before q p)
before-separate p q h = before-part p q (part-separate p q h)
