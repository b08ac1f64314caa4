-- Edits and the arrangement of a node: which of them exclude it, and how the others lie to it.
use Rattle.std.proofs.Common.{◌≡◌, ◌≢◌, ℕ, zero, suc, ◌+◌, ◌<◌, ◌≤◌, Bool, true, false, List, []}
use Rattle.std.proofs.Common.{◌∷◌, ◌++◌, length, Option, Some, None, append_assoc, inl, inr, refl}
use Rattle.std.proofs.Common.{sym, ◌∙◌, ap, subst, arith, drop}
use Rattle.std.specs.Prelude.{nat_lt, nat_le, nat_eq, if◌then◌else◌}
use Rattle.std.specs.Cmp.{nat_cmp_is}
use Rattle.std.specs.Cmp.Lexicographic.{slice_cmp}
use Rattle.std.specs.List.{AllByRecursion}
use Rattle.std.specs.Ordering.{nat_cmp, ordering_then}
use Rattle.std.specs.declared.cmp.Ordering.TheVariants.{Less, Equal, Greater}
use Rattle.std.proofs.lemmas.Bool.{and_from, and_parts, le-leb, lt-ltb, leb-true, ltb-true, ne_eqb}
use Rattle.std.proofs.lemmas.Bool.{cases_Bool, cases_eq, cases_order}
use Rattle.std.proofs.lemmas.Bool.Decides.{Decides-eqb}
use Rattle.rowan_terms.specs.Path.{Path}
use Rattle.rowan_edit.specs.Arrangements.{AreFree, gap}
use Rattle.rowan_edit.specs.Arrangements.{Excludes}
use Rattle.rowan_changes.specs.Edit.{Edit, Overlap, conflicts, ends_before, place}
use Rattle.rowan_edit.specs.Inside.{rest_behind}
use Rattle.rowan_changes.specs.Plan.{added}
use Rattle.rowan_changes.specs.Sites.{is_among, is_taken_at, site_of}
use Rattle.rowan_changes.specs.Zipper.{Fork}
use Rattle.rowan_edit.proofs.OverlapLemmas.{conflict-overlaps}
use Rattle.rowan_changes.proofs.Places.{Before, true-before, before-trans}
use Rattle.rowan_edit.proofs.PlanLemmas.{conflict-is}

-- ---- what an edit takes away

-- a node is among children exactly where the gap before its first child is inside of them
pub among-overlap : (q : Path) (s e : ℕ) (p : Path) → is_among q s e p ≡ true → Overlap q s e p 0 0
among-overlap q s e [] h = absurd cc
among-overlap [] s e (k ∷ p) h =
    let both = and_parts (nat_le s k) (nat_lt k e) h in
    (leb-true s k both.0, ltb-true k e both.1)
among-overlap (i ∷ q) s e (k ∷ p) h =
    let both = and_parts (nat_eq i k) (is_among q s e p) h in
    ((Decides-eqb i k).0 both.0, among-overlap q s e p both.1)

pub overlap-among : (q : Path) (s e : ℕ) (p : Path) → Overlap q s e p 0 0 → is_among q s e p ≡ true
overlap-among [] s e [] h = absurd (omega (arith, h.0))
overlap-among (i ∷ q) s e [] h = absurd (omega (arith, h.1))
overlap-among [] s e (k ∷ p) h =
    and_from (nat_le s k) (nat_lt k e) (le-leb s k h.0) (lt-ltb k e h.1)
overlap-among (i ∷ q) s e (k ∷ p) h =
    and_from (nat_eq i k) (is_among q s e p) ((Decides-eqb i k).1 h.0) (overlap-among q s e p h.1)

-- an edit that conflicts with the gap before the first child excludes the node's arrangement
pub conflict-excludes : (e : Edit) (p : Path) → conflicts e (gap p) ≡ true → Excludes e p
conflict-excludes e p h =
    inr (overlap-among e.parent e.start e.end p ((conflict-overlaps e (gap p)).0 h))

taken-conflict : (e : Edit) (p : Path) → is_taken_at p (site_of e) ≡ true
    → conflicts e (gap p) ≡ true
taken-conflict e p h =
    (conflict-overlaps e (gap p)).1 (among-overlap e.parent e.start e.end p h)

pub free-of : (e : Edit) (p : Path) → conflicts e (gap p) ≡ false → e.parent ≢ p → ¬ Excludes e p
free-of e p h other (inl same) = other same
free-of e p h other (inr taken) =
    let t : true ≡ false = sym (taken-conflict e p taken) ∙ h in cc

pub all-free : (es : List Edit) (p : Path)
    → AllByRecursion (λ e. conflicts e (gap p) ≡ false) es
    → AllByRecursion (λ e. e.parent ≢ p) es → AreFree es p
all-free [] p a b = tt
all-free (e ∷ es) p a b = (free-of e p a.0 b.0, all-free es p a.1 b.1)

-- ---- edits that do not exclude the arrangement

-- one that does not end before the gap comes behind it
pub late-behind : (e : Edit) (p : Path) → ¬ Excludes e p → ends_before e (gap p) ≡ false
    → ends_before (gap p) e ≡ true
late-behind e p free late = elim (cases_Bool (ends_before (gap p) e)) [
  | inl behind ↦ behind
  | inr other ↦ absurd (free (conflict-excludes e p (conflict-is e (gap p) late other)))
]

pub all-behind-gap : (es : List Edit) (p : Path) → AreFree es p
    → AllByRecursion (λ e. ends_before e (gap p) ≡ false) es
    → AllByRecursion (λ e. ends_before (gap p) e ≡ true) es
all-behind-gap [] p a b = tt
all-behind-gap (e ∷ es) p a b = (late-behind e p a.0 b.0, all-behind-gap es p a.1 b.1)

-- ---- inside or not

pub rest-splits : (p q r : Path) → rest_behind p q ≡ Some r → q ≡ p ++ r
rest-splits [] q r h = let e : q ≡ r = cc in e
rest-splits (i ∷ p) [] r h = absurd cc
rest-splits (i ∷ p) (j ∷ q) r h = elim (cases_eq i j) [
  | inl same ↦
      let below : rest_behind p q ≡ Some r =
      sym (ap (λ b. if b then rest_behind p q else None) ((Decides-eqb i j).1 same)) ∙ h in
      ap (λ k. k ∷ q) (sym same) ∙ ap (λ xs. i ∷ xs) (rest-splits p q r below)
  | inr other ↦
      let t : None ≡ Some r =
      sym (ap (λ b. if b then rest_behind p q else None) (ne_eqb i j other)) ∙ h in
      absurd cc
]

-- no place in a node comes behind all of its children
pub inside-within : (p : Path) (n k : ℕ) (r : Path) → Before p n (p ++ k ∷ r) → n ≤ k
inside-within [] n k r h = h
inside-within (i ∷ p) n k r h = elim h [
  | inl less ↦ absurd (omega (arith, less))
  | inr both ↦ inside-within p n k r both.1
]

-- nor does it come before the first of them
inside-late : (p : Path) (n k : ℕ) (r : Path) → Before (p ++ k ∷ r) n (p ++ 0 ∷ []) → ⊥
inside-late [] n k [] h = elim h [
  | inl less ↦ omega (arith, less)
  | inr both ↦ both.1
]
inside-late [] n k (j ∷ r) h = elim h [
  | inl less ↦ omega (arith, less)
  | inr both ↦ both.1
]
inside-late (i ∷ p) n k r h = elim h [
  | inl less ↦ omega (arith, less)
  | inr both ↦ inside-late p n k r both.1
]

-- the node is not the edit's own, and does not have the edit's in it
none-if : (p q : Path) → ((r : Path) → q ≡ p ++ r → ⊥) → rest_behind p q ≡ None
none-if p q f = at (rest_behind p q) refl
  where
    at : (o : Option Path) → rest_behind p q ≡ o → rest_behind p q ≡ None
    at None e = e
    at (Some r) e = absurd (f r (rest-splits p q r e))

-- an edit that ends before the gap is not inside
pub early-outside : (e : Edit) (p : Path) → ¬ Excludes e p → ends_before e (gap p) ≡ true
    → rest_behind p e.parent ≡ None
early-outside e p free early = none-if p e.parent outside
  where
    outside : (r : Path) → e.parent ≡ p ++ r → ⊥
    outside [] same = free (inl (same ∙ own p))
      where
        own : (q : Path) → q ++ [] ≡ q
        own [] = refl
        own (i ∷ q) = ap (λ x. i ∷ x) (own q)
    outside (k ∷ r) same = inside-late p e.end k r
        (subst (λ q. Before q e.end (p ++ 0 ∷ [])) same
        (true-before e.parent e.end (p ++ 0 ∷ []) early))

-- an edit behind the gap that is not inside comes behind all children
beyond-at : (p : Path) (n : ℕ) (q : Path) (s : ℕ) → Before p 0 (q ++ s ∷ [])
    → rest_behind p q ≡ None → Before p n (q ++ s ∷ [])
beyond-at [] n q s h none = absurd cc
beyond-at (i ∷ p) n [] s h none = elim h [
  | inl less ↦ inl less
  | inr both ↦ absurd both.1
]
beyond-at (i ∷ p) n (j ∷ q) s h none = elim h [
  | inl less ↦ inl less
  | inr both ↦
      let below : rest_behind p q ≡ None =
      sym (ap (λ b. if b then rest_behind p q else None) ((Decides-eqb i j).1 both.0)) ∙ none in
      inr (both.0, beyond-at p n q s both.1 below)
]

-- an edit comes behind all children of a node, however many there are
abbrev pub IsBeyond : Path → Edit → Type 0
IsBeyond p e = (n : ℕ) → Before p n (place e)

pub beyond : (e : Edit) (p : Path) → ends_before (gap p) e ≡ true → rest_behind p e.parent ≡ None
    → IsBeyond p e
beyond e p h none n = beyond-at p n e.parent e.start (true-before p 0 (place e) h) none

pub beyond-next : (e f : Edit) (p : Path) → IsBeyond p e → e.start ≤ e.end
    → ends_before e f ≡ true → IsBeyond p f
beyond-next e f p far order h n =
    before-trans p n e.parent e.start e.end (place f) (far n) order
    (true-before e.parent e.end (place f) h)

pub beyond-outside : (e : Edit) (p : Path) → IsBeyond p e → rest_behind p e.parent ≡ None
beyond-outside e p far = none-if p e.parent outside
  where
    first : (r : Path) (s : ℕ) → (k : ℕ) × (z : Path) × (r ++ s ∷ [] ≡ k ∷ z)
    first [] s = (s, [], refl)
    first (k ∷ r) s = (k, r ++ s ∷ [], refl)

    outside : (r : Path) → e.parent ≡ p ++ r → ⊥
    outside r same =
        let f = first r e.start in
        let at : place e ≡ p ++ f.0 ∷ f.1 =
        ap (λ q. q ++ e.start ∷ []) same ∙ append_assoc p r (e.start ∷ [])
        ∙ ap (λ x. p ++ x) f.2 in
        let within = inside-within p (suc f.0) f.0 f.1
        (subst (λ z. Before p (suc f.0) z) at (far (suc f.0))) in
        omega (arith, within)

-- and does not end before the gap
pub beyond-late : (e : Edit) (p : Path) → IsBeyond p e → e.start ≤ e.end
    → ends_before e (gap p) ≡ false
beyond-late e p far order = elim (cases_Bool (ends_before e (gap p))) [
  | inl early ↦
      absurd (omega (
        arith,
        inside-within p 1 0 [] (before-trans p 1 e.parent e.start e.end
            (p ++ 0 ∷ []) (far 1) order (true-before e.parent e.end (p ++ 0 ∷ []) early)),
      ))
  | inr late ↦ late
]

-- ---- two nodes

pub less-is : (x y : ℕ) → x < y → nat_cmp x y ≡ Less
less-is x y h = sym (nat_cmp_is x y Less h)

pub equal-is : (x y : ℕ) → x ≡ y → nat_cmp x y ≡ Equal
equal-is x y h = sym (nat_cmp_is x y Equal h)

greater-is : (x y : ℕ) → y < x → nat_cmp x y ≡ Greater
greater-is x y h = sym (nat_cmp_is x y Greater h)

-- the first child of a node of a smaller path comes first
pub less-before : (q p : Path) → slice_cmp nat_cmp q p ≡ Less → Before q 0 (p ++ 0 ∷ [])
less-before [] [] h = absurd cc
less-before [] (j ∷ p) h = omega arith
less-before (i ∷ q) [] h = absurd cc
less-before (i ∷ q) (j ∷ p) h = elim (cases_order i j) [
  | inl same ↦
      let below : slice_cmp nat_cmp q p ≡ Less =
      sym (ap (λ o. ordering_then o (slice_cmp nat_cmp q p)) (equal-is i j same)) ∙ h in
      inr (same, less-before q p below)
  | inr other ↦ elim other [
    | inl less ↦ inl less
    | inr more ↦
        let t : Greater ≡ Less =
        sym (ap (λ o. ordering_then o (slice_cmp nat_cmp q p)) (greater-is i j more)) ∙ h in
        absurd cc
  ]
]

-- the path of a node is smaller than those of what is in it
pub among-greater : (p : Path) (s e : ℕ) (q : Path) → is_among p s e q ≡ true
    → slice_cmp nat_cmp q p ≡ Greater
among-greater p s e [] h = absurd cc
among-greater [] s e (k ∷ q) h = refl
among-greater (i ∷ p) s e (k ∷ q) h =
    let both = and_parts (nat_eq i k) (is_among p s e q) h in
    ap (λ o. ordering_then o (slice_cmp nat_cmp q p)) (equal-is k i (sym ((Decides-eqb i k).0 both.0)))
    ∙ among-greater p s e q both.1

pub path-equal : (p : Path) → slice_cmp nat_cmp p p ≡ Equal
path-equal [] = refl
path-equal (i ∷ p) =
    ap (λ o. ordering_then o (slice_cmp nat_cmp p p)) (equal-is i i refl) ∙ path-equal p

-- what is one of the children of a node from one index to another, or in one, is between the paths
-- of these
pub among-from : (q : Path) (s e : ℕ) (p : Path) → is_among q s e p ≡ true
    → (slice_cmp nat_cmp (q ++ s ∷ []) p ≢ Greater) × (slice_cmp nat_cmp (q ++ e ∷ []) p ≡ Greater)
among-from q s e [] h = absurd cc
among-from [] s e (k ∷ p) h =
    let both = and_parts (nat_le s k) (nat_lt k e) h in (
      λ more. low p (leb-true s k both.0) more,
      ap (λ o. ordering_then o (slice_cmp nat_cmp [] p)) (greater-is e k (ltb-true k e both.1)),
    )
  where
    low : (p : Path) → s ≤ k → ordering_then (nat_cmp s k) (slice_cmp nat_cmp [] p) ≡ Greater → ⊥
    low p le more = elim (cases_order s k) [
      | inl same ↦ tail p (sym (ap (λ o. ordering_then o (slice_cmp nat_cmp [] p))
          (equal-is s k same)) ∙ more)
      | inr other ↦ elim other [
        | inl less ↦
            let t : Less ≡ Greater = sym (ap (λ o. ordering_then o (slice_cmp nat_cmp [] p))
            (less-is s k less)) ∙ more in
            cc
        | inr far ↦ omega (arith, far, le)
      ]
    ]
      where
        tail : (p : Path) → slice_cmp nat_cmp [] p ≡ Greater → ⊥
        tail [] t = cc
        tail (j ∷ p) t = cc
among-from (i ∷ q) s e (k ∷ p) h =
    let both = and_parts (nat_eq i k) (is_among q s e p) h in
    let rest = among-from q s e p both.1 in
    let first = equal-is i k ((Decides-eqb i k).0 both.0) in (
      λ more. rest.0 (sym (ap (λ o. ordering_then o (slice_cmp nat_cmp (q ++ s ∷ []) p)) first)
          ∙ more),
      ap (λ o. ordering_then o (slice_cmp nat_cmp (q ++ e ∷ []) p)) first ∙ rest.1,
    )

pub among-if : (q : Path) (s e : ℕ) (p : Path) → slice_cmp nat_cmp (q ++ s ∷ []) p ≢ Greater
    → slice_cmp nat_cmp (q ++ e ∷ []) p ≡ Greater → s < e → is_among q s e p ≡ true
among-if [] s e [] low high less = absurd (low refl)
among-if (i ∷ q) s e [] low high less = absurd (low refl)
among-if [] s e (k ∷ p) low high less =
    and_from (nat_le s k) (nat_lt k e) (le-leb s k first) (lt-ltb k e last)
  where
    first : s ≤ k
    first = elim (cases_order s k) [
      | inl same ↦ omega (arith, same)
      | inr other ↦ elim other [
        | inl near ↦ omega (arith, near)
        | inr far ↦ absurd (low (ap (λ o. ordering_then o (slice_cmp nat_cmp [] p))
            (greater-is s k far)))
      ]
    ]

    tail : (p : Path) → slice_cmp nat_cmp [] p ≡ Greater → ⊥
    tail [] t = cc
    tail (j ∷ p) t = cc

    last : k < e
    last = elim (cases_order e k) [
      | inl same ↦ absurd (tail p (sym (ap (λ o. ordering_then o (slice_cmp nat_cmp [] p))
          (equal-is e k same)) ∙ high))
      | inr other ↦ elim other [
        | inl near ↦
            let t : Less ≡ Greater = sym (ap (λ o. ordering_then o (slice_cmp nat_cmp [] p))
            (less-is e k near)) ∙ high in
            absurd cc
        | inr far ↦ far
      ]
    ]
among-if (i ∷ q) s e (k ∷ p) low high less = elim (cases_order i k) [
  | inl same ↦
      let first = equal-is i k same in
      and_from (nat_eq i k) (is_among q s e p) ((Decides-eqb i k).1 same)
      (among-if q s e p
      (λ more. low (ap (λ o. ordering_then o (slice_cmp nat_cmp (q ++ s ∷ []) p)) first ∙ more))
      (sym (ap (λ o. ordering_then o (slice_cmp nat_cmp (q ++ e ∷ []) p)) first) ∙ high) less)
  | inr other ↦ elim other [
    | inl near ↦
        let t : Less ≡ Greater =
        sym (ap (λ o. ordering_then o (slice_cmp nat_cmp (q ++ e ∷ []) p)) (less-is i k near))
        ∙ high in
        absurd cc
    | inr far ↦ absurd (low (ap (λ o. ordering_then o (slice_cmp nat_cmp (q ++ s ∷ []) p))
        (greater-is i k far)))
  ]
]

-- ---- one more edit

pub all-added : (P : Edit → Type 0) (es : List Edit) (e : Edit) → AllByRecursion P es → P e
    → AllByRecursion P (added es e)
all-added P [] e a h = (h, tt)
all-added P (f ∷ fs) e a h = at (all-added P fs e a.1 h) (ends_before f e)
  where
    at : AllByRecursion P (added fs e) → (b : Bool)
        → AllByRecursion P (if b then f ∷ added fs e else e ∷ f ∷ fs)
    at rest true = (a.0, rest)
    at rest false = (h, a)

-- ---- how a path goes on

pub fork-none : (p q : Path) (k : ℕ) → Fork p q k → k < length p → rest_behind p q ≡ None
fork-none [] q k f h = absurd (omega arith)
fork-none (i ∷ p) [] k f h = refl
fork-none (i ∷ p) (j ∷ q) zero f h =
    ap (λ b. if b then rest_behind p q else None) (ne_eqb i j f)
fork-none (i ∷ p) (j ∷ q) (suc k) f h =
    ap (λ b. if b then rest_behind p q else None) ((Decides-eqb i j).1 f.0)
    ∙ fork-none p q k f.1 (omega arith)

pub fork-rest : (p q : Path) (k : ℕ) → Fork p q k → length p ≤ k → Some (drop k q) ≡ rest_behind p q
fork-rest [] q zero f h = refl
fork-rest [] q (suc k) f h = absurd f
fork-rest (i ∷ p) [] k f h = absurd (no_more k f h)
  where
    no_more : (k : ℕ) → Fork (i ∷ p) [] k → length (i ∷ p) ≤ k → ⊥
    no_more zero g le = omega arith
    no_more (suc m) g le = g
fork-rest (i ∷ p) (j ∷ q) zero f h = absurd (omega arith)
fork-rest (i ∷ p) (j ∷ q) (suc k) f h =
    fork-rest p q k f.1 (omega arith)
    ∙ sym (ap (λ b. if b then rest_behind p q else None) ((Decides-eqb i j).1 f.0))
