-- Places: which lies before which, and where two paths part.
use Rattle.std.proofs.Common.{◌≡◌, ◌≢◌, ℕ, zero, suc, ◌+◌, ◌<◌, ◌≤◌, Bool, true, false, List}
use Rattle.std.proofs.Common.{[], ◌∷◌, ◌++◌, length, take, drop, inl, inr, refl, sym, ◌∙◌, ap}
use Rattle.std.proofs.Common.{arith, subst, Some}
use Rattle.std.specs.Prelude.{◌⊎◌, nat_lt, nat_le, nat_eq, ◌||◌, ◌&&◌, slice_get}
use Rattle.std.proofs.lemmas.Bool.{and_from, and_parts, or_cases, or_left, or_right, ltb-true}
use Rattle.std.proofs.lemmas.Bool.{lt-ltb, le-ltb, leb-true, le-leb, ne_eqb}
use Rattle.std.proofs.lemmas.Bool.Decides.{Decides-eqb}
use Rattle.rowan_terms.specs.Path.{Path}
use Rattle.rowan_changes.specs.Edit.{lies_before, place}
use Rattle.rowan_changes.specs.Zipper.{Fork}

-- ---- the test as a fact

abbrev pub Before : Path → ℕ → Path → Type 0
Before parent end [] = ⊥
Before [] end (k ∷ place) = end ≤ k
Before (i ∷ parent) end (k ∷ place) = (i < k) ⊎ ((i ≡ k) × Before parent end place)

pub true-before : (p : Path) (end : ℕ) (z : Path) → lies_before p end z ≡ true → Before p end z
true-before p end [] h = absurd cc
true-before [] end (k ∷ z) h = leb-true end k h
true-before (i ∷ p) end (k ∷ z) h =
    elim (or_cases (nat_lt i k) (nat_eq i k && lies_before p end z) h) [
      | inl less ↦ inl (ltb-true i k less)
      | inr both ↦
          let q = and_parts (nat_eq i k) (lies_before p end z) both in
          inr ((Decides-eqb i k).0 q.0, true-before p end z q.1)
    ]

pub before-true : (p : Path) (end : ℕ) (z : Path) → Before p end z → lies_before p end z ≡ true
before-true p end [] h = absurd h
before-true [] end (k ∷ z) h = le-leb end k h
before-true (i ∷ p) end (k ∷ z) h = elim h [
  | inl less ↦ or_left (nat_lt i k) (nat_eq i k && lies_before p end z) (lt-ltb i k less)
  | inr both ↦ or_right (nat_lt i k) (nat_eq i k && lies_before p end z)
      (and_from (nat_eq i k) (lies_before p end z) ((Decides-eqb i k).1 both.0)
      (before-true p end z both.1))
]

-- ---- the test, index by index

pub drop-at : {A : Type 0} (xs : List A) (d : ℕ) (x : A) → slice_get xs d ≡ Some x
    → drop d xs ≡ x ∷ drop (d + 1) xs
drop-at [] d x h = absurd cc
drop-at (y ∷ ys) zero x h = let e : y ≡ x = cc in ap (λ z. z ∷ ys) e
drop-at (y ∷ ys) (suc d) x h =
    let next : suc (d + 1) ≡ suc d + 1 = omega arith in
    drop-at ys d x h ∙ ap (λ n. x ∷ drop n (y ∷ ys)) next

pub drop-all : {A : Type 0} (xs : List A) (d : ℕ) → length xs ≤ d → drop d xs ≡ []
drop-all [] zero h = refl
drop-all [] (suc d) h = refl
drop-all (x ∷ xs) zero h = absurd (omega arith)
drop-all (x ∷ xs) (suc d) h = drop-all xs d (omega arith)

pub lies-same : (ps ws : Path) (end d i k : ℕ) → slice_get ps d ≡ Some i
    → slice_get ws d ≡ Some k → i ≡ k
    → lies_before (drop d ps) end (drop d ws) ≡ lies_before (drop (d + 1) ps) end (drop (d + 1) ws)
lies-same ps ws end d i k p w e =
    let rest = lies_before (drop (d + 1) ps) end (drop (d + 1) ws) in
    ap (λ xs. lies_before xs end (drop d ws)) (drop-at ps d i p)
    ∙ ap (λ xs. lies_before (i ∷ drop (d + 1) ps) end xs) (drop-at ws d k w)
    ∙ ap (λ b. b || (nat_eq i k && rest)) (le-ltb i k (omega (arith, e)))
    ∙ ap (λ b. b && rest) ((Decides-eqb i k).1 e)

pub lies-other : (ps ws : Path) (end d i k : ℕ) → slice_get ps d ≡ Some i
    → slice_get ws d ≡ Some k → i ≢ k → lies_before (drop d ps) end (drop d ws) ≡ nat_lt i k
lies-other ps ws end d i k p w n =
    let rest = lies_before (drop (d + 1) ps) end (drop (d + 1) ws) in
    ap (λ xs. lies_before xs end (drop d ws)) (drop-at ps d i p)
    ∙ ap (λ xs. lies_before (i ∷ drop (d + 1) ps) end xs) (drop-at ws d k w)
    ∙ ap (λ b. nat_lt i k || (b && rest)) (ne_eqb i k n) ∙ none (nat_lt i k)
  where
    none : (b : Bool) → (b || false) ≡ b
    none true = refl
    none false = refl

pub lies-last : (ps other : Path) (end start d i : ℕ) → slice_get ps d ≡ Some i
    → d ≡ length other → lies_before (drop d ps) end (drop d (other ++ start ∷ [])) ≡ nat_lt i start
lies-last ps other end start d i p e =
    ap (λ xs. lies_before xs end (drop d (other ++ start ∷ []))) (drop-at ps d i p)
    ∙ ap (λ n. lies_before (i ∷ drop (d + 1) ps) end (drop n (other ++ start ∷ []))) e
    ∙ ap (λ xs. lies_before (i ∷ drop (d + 1) ps) end xs) (last other)
    ∙ none (nat_lt i start) (nat_eq i start)
  where
    last : (xs : Path) → drop (length xs) (xs ++ start ∷ []) ≡ start ∷ []
    last [] = refl
    last (x ∷ xs) = last xs

    none : (b c : Bool) → (b || (c && false)) ≡ b
    none true true = refl
    none true false = refl
    none false true = refl
    none false false = refl

pub lies-ends : (ps ws : Path) (end d k : ℕ) → length ps ≤ d → slice_get ws d ≡ Some k
    → lies_before (drop d ps) end (drop d ws) ≡ nat_le end k
lies-ends ps ws end d k p w =
    ap (λ xs. lies_before xs end (drop d ws)) (drop-all ps d p)
    ∙ ap (λ xs. lies_before [] end xs) (drop-at ws d k w)

-- ---- the order of places

-- what ends before an edit begins ends before all that lies behind the edit
pub before-trans : (q : Path) (n : ℕ) (p : Path) (start end : ℕ) (z : Path)
    → Before q n (p ++ start ∷ []) → start ≤ end → Before p end z → Before q n z
before-trans q n p start end [] h le g = absurd g
before-trans [] n [] start end (k ∷ z) h le g = omega arith
before-trans [] n (j ∷ p) start end (k ∷ z) h le g = elim g [
  | inl less ↦ omega (arith, h, less)
  | inr both ↦ omega (arith, h, both.0)
]
before-trans (i ∷ q) n [] start end (k ∷ z) h le g = elim h [
  | inl less ↦ inl (omega (arith, less, le, g))
  | inr both ↦ absurd both.1
]
before-trans (i ∷ q) n (j ∷ p) start end (k ∷ z) h le g = elim h [
  | inl less ↦ elim g [
    | inl more ↦ inl (omega (arith, less, more))
    | inr both ↦ inl (omega (arith, less, both.0))
  ]
  | inr same ↦ elim g [
    | inl more ↦ inl (omega (arith, same.0, more))
    | inr both ↦ inr (same.0 ∙ both.0, before-trans q n p start end z same.1 le both.1)
  ]
]

-- ---- where two paths part

-- up to where a path parts from that of a zipper, the place of the zipper lies behind it
pub record IsRoom (q : Path) (end : ℕ) (p : Path) (k : ℕ) (count : ℕ) : Type 0 where
  pub path : p ≡ take count q
  pub room : Before (drop count q) end (k ∷ [])
  pub within : count ≤ length q

pub fork-room : (count : ℕ) (p q : Path) (k end : ℕ) (above : Path) (kept : ℕ) → Fork p q count
    → Before q end (p ++ k ∷ []) → length above ≡ count
    → above ++ kept ∷ [] ≡ take (count + 1) (p ++ k ∷ []) → IsRoom q end above kept count
fork-room zero p q k end (x ∷ above) kept f h len e = absurd (omega arith)
fork-room zero [] q k end [] kept f h len e =
    let same : kept ≡ k = cc in
    record {
      path = refl;
      room = subst (λ n. Before q end (n ∷ [])) (sym same) h;
      within = omega arith;
    }
fork-room zero (i ∷ p) [] k end [] kept f h len e =
    let same : kept ≡ i = cc in
    record { path = refl; room = omega (arith, same, h); within = omega arith }
fork-room zero (i ∷ p) (j ∷ q) k end [] kept f h len e =
    let same : kept ≡ i = cc in
    record {
      path = refl;
      room = elim h [
        | inl less ↦ inl (omega (arith, less, same))
        | inr both ↦ absurd (f (sym both.0))
      ];
      within = omega arith;
    }
fork-room (suc count) [] q k end above kept f h len e = absurd f
fork-room (suc count) (i ∷ p) [] k end above kept f h len e = absurd f
fork-room (suc count) (i ∷ p) (j ∷ q) k end [] kept f h len e = absurd (omega arith)
fork-room (suc count) (i ∷ p) (j ∷ q) k end (x ∷ above) kept f h len e =
    let next : suc count + 1 ≡ suc (count + 1) = omega arith in
    let all : x ∷ (above ++ kept ∷ []) ≡ i ∷ take (count + 1) (p ++ k ∷ []) =
    e ∙ ap (λ n. take n (i ∷ (p ++ k ∷ []))) next in
    let first : x ≡ i = cc in
    let others : above ++ kept ∷ [] ≡ take (count + 1) (p ++ k ∷ []) = cc in
    let below : Before q end (p ++ k ∷ []) = elim h [
      | inl less ↦ absurd (omega (arith, less, f.0))
      | inr both ↦ both.1
    ] in
    let rest = fork-room count p q k end above kept f.1 below (omega (arith, len)) others in
    record {
      path = ap (λ y. y ∷ above) (first ∙ f.0) ∙ ap (λ ys. j ∷ ys) rest.path;
      room = rest.room;
      within = omega (arith, rest.within);
    }

-- behind where they part, a longer beginning of the place lies behind it as well
pub fork-before : (count : ℕ) (p q : Path) (k end depth : ℕ) → Fork p q count
    → Before q end (p ++ k ∷ []) → count < depth → depth ≤ length p → Before q end (take depth p)
fork-before count p q k end zero f h less within = absurd (omega arith)
fork-before zero [] q k end (suc depth) f h less within = absurd (omega arith)
fork-before zero (i ∷ p) [] k end (suc depth) f h less within = h
fork-before zero (i ∷ p) (j ∷ q) k end (suc depth) f h less within = elim h [
  | inl before ↦ inl before
  | inr both ↦ absurd (f (sym both.0))
]
fork-before (suc count) [] q k end (suc depth) f h less within = absurd f
fork-before (suc count) (i ∷ p) [] k end (suc depth) f h less within = absurd f
fork-before (suc count) (i ∷ p) (j ∷ q) k end (suc depth) f h less within = elim h [
  | inl before ↦ inl before
  | inr both ↦
      inr (both.0, fork-before count p q k end depth f.1 both.1 (omega arith) (omega arith))
]

-- the paths are the same so far, and one of them ends
pub fork-ends : (count : ℕ) (p q : Path) → take count p ≡ take count q → length p ≡ count
    → count ≤ length q → Fork p q count
fork-ends zero [] q e h k = tt
fork-ends zero (i ∷ p) q e h k = absurd (omega arith)
fork-ends (suc count) [] q e h k = absurd (omega arith)
fork-ends (suc count) (i ∷ p) [] e h k = absurd (omega arith)
fork-ends (suc count) (i ∷ p) (j ∷ q) e h k =
    let first : i ≡ j = cc in
    let rest : take count p ≡ take count q = cc in
    (first, fork-ends count p q rest (omega arith) (omega arith))

pub fork-whole : (count : ℕ) (p q : Path) → take count p ≡ take count q → length q ≡ count
    → count ≤ length p → Fork p q count
fork-whole zero [] q e h k = tt
fork-whole zero (i ∷ p) [] e h k = tt
fork-whole zero (i ∷ p) (j ∷ q) e h k = absurd (omega arith)
fork-whole (suc count) [] q e h k = absurd (omega arith)
fork-whole (suc count) (i ∷ p) [] e h k = absurd (omega arith)
fork-whole (suc count) (i ∷ p) (j ∷ q) e h k =
    let first : i ≡ j = cc in
    let rest : take count p ≡ take count q = cc in
    (first, fork-whole count p q rest (omega arith) (omega arith))

-- the paths are the same so far, and then part
pub fork-parts : (count : ℕ) (p q : Path) (i j : ℕ) → take count p ≡ take count q
    → slice_get p count ≡ Some i → slice_get q count ≡ Some j → i ≢ j → Fork p q count
fork-parts zero [] q i j e a b n = absurd cc
fork-parts zero (x ∷ p) [] i j e a b n = absurd cc
fork-parts zero (x ∷ p) (y ∷ q) i j e a b n =
    let first : x ≡ i = cc in
    let second : y ≡ j = cc in
    λ same. n (sym first ∙ same ∙ second)
fork-parts (suc count) [] q i j e a b n = absurd cc
fork-parts (suc count) (x ∷ p) [] i j e a b n = absurd cc
fork-parts (suc count) (x ∷ p) (y ∷ q) i j e a b n =
    let first : x ≡ y = cc in
    let rest : take count p ≡ take count q = cc in
    (first, fork-parts count p q i j rest a b n)
