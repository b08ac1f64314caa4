-- Two edits of which neither ends before the other begins overlap.
use Rattle.std.proofs.Common.{◌≡◌, ℕ, Bool, true, false, [], ◌∷◌, ◌++◌, inl, inr, sym}
use Rattle.std.proofs.Common.{arith}
use Rattle.std.specs.Prelude.{◌⊎◌, ◌↔◌, not}
use Rattle.std.proofs.lemmas.Bool.{and_parts, cases_lt, cases_order, cases_Bool}
use Rattle.rowan_terms.specs.Path.{Path}
use Rattle.rowan_changes.specs.Edit.{Edit, place, ends_before, conflicts, Overlap, EditsOverlap}
use Rattle.rowan_changes.proofs.Places.{Before, true-before, before-true}
use Rattle.rowan_edit.proofs.PlanLemmas.{conflict-is}

-- of the children from s to e of the node at p and those from t to f of the node at q
abbrev Order : Path → ℕ → ℕ → Path → ℕ → ℕ → Type 0
Order p s e q t f =
    Before p e (q ++ t ∷ []) ⊎ (Before q f (p ++ s ∷ []) ⊎ Overlap p s e q t f)

one-of : (p : Path) (s e : ℕ) (q : Path) (t f : ℕ) → Order p s e q t f
one-of [] s e [] t f = elim (cases_lt t e) [
  | inl early ↦ elim (cases_lt s f) [
    | inl late ↦ inr (inr (late, early))
    | inr past ↦ inr (inl past)
  ]
  | inr past ↦ inl past
]
one-of [] s e (j ∷ q) t f = elim (cases_lt j e) [
  | inl early ↦ elim (cases_lt j s) [
    | inl before ↦ inr (inl (inl before))
    | inr late ↦ inr (inr (late, early))
  ]
  | inr past ↦ inl past
]
one-of (i ∷ p) s e [] t f = elim (cases_lt i f) [
  | inl early ↦ elim (cases_lt i t) [
    | inl before ↦ inl (inl before)
    | inr late ↦ inr (inr (late, early))
  ]
  | inr past ↦ inr (inl past)
]
one-of (i ∷ p) s e (j ∷ q) t f = elim (cases_order i j) [
  | inl same ↦ elim (one-of p s e q t f) [
    | inl before ↦ inl (inr (same, before))
    | inr rest ↦ elim rest [
      | inl behind ↦ inr (inl (inr (sym same, behind)))
      | inr over ↦ inr (inr (same, over))
    ]
  ]
  | inr other ↦ elim other [
    | inl less ↦ inl (inl less)
    | inr more ↦ inr (inl (inl more))
  ]
]

not-before : (p : Path) (s e : ℕ) (q : Path) (t f : ℕ) → Overlap p s e q t f
    → Before p e (q ++ t ∷ []) → ⊥
not-before [] s e [] t f h b = omega (arith, h.1, b)
not-before [] s e (j ∷ q) t f h b = omega (arith, h.1, b)
not-before (i ∷ p) s e [] t f h b = elim b [
  | inl less ↦ omega (arith, h.0, less)
  | inr both ↦ both.1
]
not-before (i ∷ p) s e (j ∷ q) t f h b = elim b [
  | inl less ↦ omega (arith, h.0, less)
  | inr both ↦ not-before p s e q t f h.1 both.1
]

turned : (p : Path) (s e : ℕ) (q : Path) (t f : ℕ) → Overlap p s e q t f → Overlap q t f p s e
turned [] s e [] t f h = (h.1, h.0)
turned [] s e (j ∷ q) t f h = h
turned (i ∷ p) s e [] t f h = h
turned (i ∷ p) s e (j ∷ q) t f h = (sym h.0, turned p s e q t f h.1)

not-true : (b : Bool) → not b ≡ true → b ≡ true → ⊥
not-true true h g = cc
not-true false h g = cc

apart : (e f : Edit) → EditsOverlap e f → ends_before e f ≡ false
apart e f h = elim (cases_Bool (ends_before e f)) [
  | inl yes_it_does ↦ absurd
      (not-before e.parent e.start e.end f.parent f.start f.end h
      (true-before e.parent e.end (place f) yes_it_does))
  | inr it_does_not ↦ it_does_not
]

pub conflict-overlaps : (e f : Edit) → (conflicts e f ≡ true) ↔ EditsOverlap e f
conflict-overlaps e f = (
  λ h.
      (let parts = and_parts (not (ends_before e f)) (not (ends_before f e)) h in
      elim (one-of e.parent e.start e.end f.parent f.start f.end) [
        | inl before ↦ absurd (not-true (ends_before e f) parts.0
            (before-true e.parent e.end (place f) before))
        | inr rest ↦ elim rest [
          | inl behind ↦ absurd (not-true (ends_before f e) parts.1
              (before-true f.parent f.end (place e) behind))
          | inr over ↦ over
        ]
      ]),
  λ h. conflict-is e f (apart e f h)
      (apart f e (turned e.parent e.start e.end f.parent f.start f.end h)),
)
