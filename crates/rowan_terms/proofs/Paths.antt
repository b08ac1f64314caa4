-- Paths: the subterm at a longer path, what begins with a path, and that nothing stands before the
-- empty one.
use Rattle.std.proofs.Common.{◌≡◌, ◌≢◌, ℕ, true, false, ◌&&◌, List, [], ◌∷◌, ◌++◌, filter, sum_by}
use Rattle.std.proofs.Common.{Option, Some, None, inl, inr, refl, sym, ◌∙◌, ap, true≢false, eq-eqb}
use Rattle.std.proofs.Common.{ne_eqb}
use Rattle.std.specs.Prelude.{slice_get}
use Rattle.std.proofs.lemmas.Bool.{cases_eq}
use Rattle.rowan_green.specs.Term.{Term, token_len}
use Rattle.rowan_terms.specs.Path.{Path, LeafAt, term_children, subterm_of, stands_before, begins}
use Rattle.rowan_terms.specs.Path.{leaves, offset}

none_before : (ls : List LeafAt)
    → sum_by (λ l. token_len l.1) (filter (λ l. stands_before l.0 []) ls) ≡ 0
none_before [] = refl
none_before (l ∷ ls) = none_before ls

pub offset-empty : (t : Term) → offset t [] ≡ 0
offset-empty t = none_before (leaves t)

-- Going down: the subterm at a longer path.
pub subterm_of-append : (t : Option Term) (p q : Path)
    → subterm_of t (p ++ q) ≡ subterm_of (subterm_of t p) q
subterm_of-append None p q = refl
subterm_of-append (Some t) [] q = refl
subterm_of-append (Some t) (i ∷ p) q = subterm_of-append (slice_get (term_children t) i) p q

pub subterm_of-here : (t : Option Term) → subterm_of t [] ≡ t
subterm_of-here None = refl
subterm_of-here (Some t) = refl

-- Paths with a common beginning.
pub begins-same : (i : ℕ) (p q : Path) → begins (i ∷ p) (i ∷ q) ≡ begins p q
begins-same i p q = ap (λ b. b && begins p q) (eq-eqb i i refl)

pub begins-other : (i j : ℕ) (p q : Path) → i ≢ j → begins (i ∷ p) (j ∷ q) ≡ false
begins-other i j p q n = ap (λ b. b && begins p q) (ne_eqb i j n)

pub begins-own : (p q : Path) → begins p (p ++ q) ≡ true
begins-own [] q = refl
begins-own (i ∷ p) q = begins-same i p (p ++ q) ∙ begins-own p q

pub begins-self : (p : Path) → begins p p ≡ true
begins-self [] = refl
begins-self (i ∷ p) = begins-same i p p ∙ begins-self p

-- what begins with a path goes on from it
pub begins-rest : (p q : Path) → begins p q ≡ true → (r : Path) × (q ≡ p ++ r)
begins-rest [] q h = (q, refl)
begins-rest (i ∷ p) [] h = absurd (true≢false (sym h))
begins-rest (i ∷ p) (j ∷ q) h = elim (cases_eq i j) [
  | inl e ↦ (let s = begins-rest p q
      (sym (begins-same i p q) ∙ ap (λ k. begins (i ∷ p) (k ∷ q)) e ∙ h) in
      (s.0, ap (λ k. k ∷ q) (sym e) ∙ ap (λ u. i ∷ u) s.1))
  | inr n ↦ absurd (true≢false (sym h ∙ begins-other i j p q n))
]
