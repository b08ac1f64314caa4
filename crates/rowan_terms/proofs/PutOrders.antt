-- Replacements one after the other: what they leave, where ranges go, and that pairwise separate
-- ones make one term in any order.
use Rattle.std.proofs.Common.{◌≡◌, ℕ, zero, suc, ◌<◌, true, List, [], ◌∷◌, ◌++◌, length, get_or}
use Rattle.std.proofs.Common.{set, swap, Some, All, IsPermutation, inl, inr, refl, sym, ◌∙◌, ap}
use Rattle.std.proofs.Common.{subst, arith, set-set}
use Rattle.std.specs.List.{AllByRecursion}
use Rattle.std.proofs.lemmas.Bool.{cases_order}
use Rattle.std.proofs.lemmas.List.{set-get_or, set_comm}
use Rattle.std.proofs.lemmas.List.Edits.{swap_is}
use Rattle.std.proofs.lemmas.List.Elements.{All-from_recursion, recursion_from_All}
use Rattle.std.proofs.lemmas.List.Sorted.{All-permutation, IsPermutation-keeps}
use Rattle.rowan_terms.specs.Path.{Path, subterm, range, put, separate}
use Rattle.rowan_terms.specs.Replacements.{Replacement, Makes, SeparateFromAll, PairwiseSeparate}
use Rattle.rowan_terms.specs.Replacements.{moved_in_turn}
use Rattle.rowan_green.specs.Term.{Term}
use Rattle.rowan_terms.proofs.PutLemmas.{subterm-put, subterm-apart, put-commute}
use Rattle.rowan_terms.proofs.PutRanges.{range-apart}
use Rattle.rowan_terms.proofs.SeparateLemmas.{separate-sym}

-- ---- what they leave

-- `All`, of the first and of the others
first-of : {A : Type 0} (P : A → Type 0) (x : A) (xs : List A) → All P (x ∷ xs) → P x
first-of P x xs h = h 0 x (omega arith)

others-of : {A : Type 0} (P : A → Type 0) (x : A) (xs : List A) → All P (x ∷ xs) → All P xs
others-of P x xs h k d l = h (suc k) d (omega arith)

-- what stands at a path that is separate from all
pub subterm-made : (t : Term) (rs : List Replacement) (last : Term) (q : Path) → Makes t rs last
    → SeparateFromAll q rs → subterm last q ≡ subterm t q
subterm-made t [] last q m h = ap (λ u. subterm u q) m
subterm-made t (r ∷ rs) last q m h =
    subterm-made (put t r.path r.new) rs last q m.2
    (others-of (λ s. separate s.path q ≡ true) r rs h)
    ∙ subterm-apart t r.path q r.new (first-of (λ s. separate s.path q ≡ true) r rs h)

-- a new subterm, if the later ones are all at separate paths
pub subterm-new : (t : Term) (before after : List Replacement) (r : Replacement) (last : Term)
    → Makes t (before ++ r ∷ after) last → SeparateFromAll r.path after
    → subterm last r.path ≡ Some r.new
subterm-new t [] after r last m h =
    subterm-made (put t r.path r.new) after last r.path m.2 h ∙ subterm-put t r.path r.new m.0 m.1
subterm-new t (s ∷ before) after r last m h =
    subterm-new (put t s.path s.new) before after r last m.2 h

-- where the range of a path goes that is separate from all
pub range-made : (t : Term) (rs : List Replacement) (last : Term) (q : Path) → Makes t rs last
    → SeparateFromAll q rs → range last q ≡ moved_in_turn t rs q (range t q)
range-made t [] last q m h = ap (λ u. range u q) m
range-made t (r ∷ rs) last q m h =
    let next = put t r.path r.new in
    range-made next rs last q m.2 (others-of (λ s. separate s.path q ≡ true) r rs h)
    ∙ ap (moved_in_turn next rs q)
    (range-apart t r.path q r.new m.0 m.1 (first-of (λ s. separate s.path q ≡ true) r rs h))

-- ---- the term that they make

abbrev put_all : Term → List Replacement → Term
put_all t [] = t
put_all t (r ∷ rs) = put_all (put t r.path r.new) rs

makes-all : (t : Term) (rs : List Replacement) (last : Term) → Makes t rs last → last ≡ put_all t rs
makes-all t [] last m = m
makes-all t (r ∷ rs) last m = makes-all (put t r.path r.new) rs last m.2

-- they make one term
pub makes-one : (t : Term) (rs : List Replacement) (a b : Term) → Makes t rs a → Makes t rs b
    → a ≡ b
makes-one t rs a b m n = makes-all t rs a m ∙ sym (makes-all t rs b n)

-- ---- their order

-- separate paths, by recursion
abbrev Apart : Path → List Replacement → Type 0
Apart p rs = AllByRecursion (λ r. separate p r.path ≡ true) rs

abbrev AllApart : List Replacement → Type 0
AllApart [] = Unit {0}
AllApart (r ∷ rs) = Apart r.path rs × AllApart rs

all_apart : (rs : List Replacement) → PairwiseSeparate rs → AllApart rs
all_apart [] h = tt
all_apart (r ∷ rs) h = (
  recursion_from_All (λ s. separate r.path s.path ≡ true) rs
      (λ k d l. h 0 (suc k) d (omega arith) (omega arith)),
  all_apart rs (λ i j d p q. h (suc i) (suc j) d (omega arith) (omega arith)),
)

at-place : {A : Type 0} (P : A → Type 0) (xs : List A) (i : ℕ) (d : A) → i < length xs
    → AllByRecursion P xs → P (get_or xs i d)
at-place P [] i d l h = absurd (omega arith)
at-place P (x ∷ xs) zero d l h = h.0
at-place P (x ∷ xs) (suc i) d l h = at-place P xs i d (omega arith) h.1

all-set : {A : Type 0} (P : A → Type 0) (xs : List A) (i : ℕ) (x : A) → AllByRecursion P xs → P x
    → AllByRecursion P (set xs i x)
all-set P [] i x h p = tt
all-set P (y ∷ ys) zero x h p = (p, h.1)
all-set P (y ∷ ys) (suc i) x h p = (h.0, all-set P ys i x h.1 p)

-- the list with the elements at two places exchanged
abbrev exchanged : {A : Type 0} → List A → ℕ → ℕ → A → List A
exchanged xs i j d = set (set xs i (get_or xs j d)) j (get_or xs i d)

-- the first one exchanged with a later one
apart-first : (x : Replacement) (rs : List Replacement) (k : ℕ) (d : Replacement) → k < length rs
    → Apart x.path rs → AllApart rs → AllApart (get_or rs k d ∷ set rs k x)
apart-first x [] k d l a b = absurd (omega arith)
apart-first x (y ∷ rs) zero d l a b = ((separate-sym y.path x.path ∙ a.0, b.0), (a.1, b.1))
apart-first x (y ∷ rs) (suc k) d l a b =
    let z = get_or rs k d in
    let rest = apart-first x rs k d (omega arith) a.1 b.1 in
    let yz : separate y.path z.path ≡ true =
    at-place (λ s. separate y.path s.path ≡ true) rs k d (omega arith) b.0 in
    let yx : separate y.path x.path ≡ true = separate-sym y.path x.path ∙ a.0 in (
      (separate-sym z.path y.path ∙ yz, rest.0),
      (all-set (λ s. separate y.path s.path ≡ true) rs k x b.0 yx, rest.1),
    )

all-first : (t : Term) (x : Replacement) (rs : List Replacement) (k : ℕ) (d : Replacement)
    → k < length rs → Apart x.path rs → AllApart rs
    → put_all t (get_or rs k d ∷ set rs k x) ≡ put_all t (x ∷ rs)
all-first t x [] k d l a b = absurd (omega arith)
all-first t x (y ∷ rs) zero d l a b =
    ap (λ u. put_all u rs) (sym (put-commute t x.path y.path x.new y.new a.0))
all-first t x (y ∷ rs) (suc k) d l a b =
    let z = get_or rs k d in
    let yz : separate y.path z.path ≡ true =
    at-place (λ s. separate y.path s.path ≡ true) rs k d (omega arith) b.0 in
    ap (λ u. put_all u (set rs k x)) (sym (put-commute t y.path z.path y.new z.new yz))
    ∙ all-first (put t y.path y.new) x rs k d (omega arith) a.1 b.1
    ∙ ap (λ u. put_all u rs) (sym (put-commute t x.path y.path x.new y.new a.0))

-- any two exchanged
apart-exchanged : (rs : List Replacement) (i j : ℕ) (d : Replacement) → i < j → j < length rs
    → AllApart rs → AllApart (exchanged rs i j d)
apart-exchanged rs i zero d l m h = absurd (omega arith)
apart-exchanged [] i (suc j) d l m h = absurd (omega arith)
apart-exchanged (x ∷ rs) zero (suc j) d l m h = apart-first x rs j d (omega arith) h.0 h.1
apart-exchanged (x ∷ rs) (suc i) (suc j) d l m h =
    let P = λ (s : Replacement). separate x.path s.path ≡ true in (
      all-set P (set rs i (get_or rs j d)) j (get_or rs i d)
          (all-set P rs i (get_or rs j d) h.0 (at-place P rs j d (omega arith) h.0))
          (at-place P rs i d (omega arith) h.0),
      apart-exchanged rs i j d (omega arith) (omega arith) h.1,
    )

all-exchanged : (t : Term) (rs : List Replacement) (i j : ℕ) (d : Replacement) → i < j
    → j < length rs → AllApart rs → put_all t (exchanged rs i j d) ≡ put_all t rs
all-exchanged t rs i zero d l m h = absurd (omega arith)
all-exchanged t [] i (suc j) d l m h = absurd (omega arith)
all-exchanged t (x ∷ rs) zero (suc j) d l m h = all-first t x rs j d (omega arith) h.0 h.1
all-exchanged t (x ∷ rs) (suc i) (suc j) d l m h =
    all-exchanged (put t x.path x.new) rs i j d (omega arith) (omega arith) h.1

-- these are pairwise separate, and make the same of t as those
abbrev SameOf : Term → List Replacement → List Replacement → Type 0
SameOf t rs ss = AllApart ss × (put_all t ss ≡ put_all t rs)

same-swapped : (t : Term) (rs ss : List Replacement) (i j : ℕ) → i < length ss → j < length ss
    → SameOf t rs ss → SameOf t rs (swap ss i j)
same-swapped t rs [] i j l m h = absurd (omega arith)
same-swapped t rs (d ∷ ss) i j l m h =
    let us = d ∷ ss in
    subst (SameOf t rs) (swap_is us i j d l m) (elim (cases_order i j) [
      | inl e ↦ subst (SameOf t rs) (sym (still us d e)) h
      | inr (inl a) ↦ (apart-exchanged us i j d a m h.0, all-exchanged t us i j d a m h.0 ∙ h.1)
      | inr (inr a) ↦
          subst (SameOf t rs) (set_comm us j i (get_or us i d) (get_or us j d)
          (λ e. omega (arith, e, a)))
          (apart-exchanged us j i d a l h.0, all-exchanged t us j i d a l h.0 ∙ h.1)
    ])
  where
    still : (us : List Replacement) (d : Replacement) → i ≡ j → exchanged us i j d ≡ us
    still us d e = ap (λ k. exchanged us i k d) (sym e)
        ∙ set-set us i (get_or us i d) (get_or us i d) ∙ set-get_or us i d

same-permuted : (t : Term) (rs ss : List Replacement) → PairwiseSeparate rs → IsPermutation rs ss
    → SameOf t rs ss
same-permuted t rs ss h p =
    IsPermutation-keeps rs (SameOf t rs) (all_apart rs h, refl) (same-swapped t rs) ss p

-- something stands at its path
abbrev HasPlace : Term → Replacement → Type 0
HasPlace t r = (w : Term) × (subterm t r.path ≡ Some w)

places-made : (t : Term) (rs : List Replacement) (last : Term) → AllApart rs → Makes t rs last
    → AllByRecursion (HasPlace t) rs
places-made t [] last h m = tt
places-made t (r ∷ rs) last h m =
    ((m.0, m.1), back rs h.0 (places-made (put t r.path r.new) rs last h.1 m.2))
  where
    back : (ss : List Replacement) → Apart r.path ss
        → AllByRecursion (HasPlace (put t r.path r.new)) ss → AllByRecursion (HasPlace t) ss
    back [] a there = tt
    back (s ∷ ss) a there = (
      (there.0.0, sym (subterm-apart t r.path s.path r.new a.0) ∙ there.0.1),
      back ss a.1 there.1,
    )

makes-places : (t : Term) (rs : List Replacement) → AllApart rs → AllByRecursion (HasPlace t) rs
    → Makes t rs (put_all t rs)
makes-places t [] h there = refl
makes-places t (r ∷ rs) h there =
    (there.0.0, there.0.1, makes-places (put t r.path r.new) rs h.1 (after rs h.0 there.1))
  where
    after : (ss : List Replacement) → Apart r.path ss → AllByRecursion (HasPlace t) ss
        → AllByRecursion (HasPlace (put t r.path r.new)) ss
    after [] a there = tt
    after (s ∷ ss) a there = (
      (there.0.0, subterm-apart t r.path s.path r.new a.0 ∙ there.0.1),
      after ss a.1 there.1,
    )

-- in any order pairwise separate replacements make the same term
pub makes-permuted : (t : Term) (rs ss : List Replacement) (last : Term) → PairwiseSeparate rs
    → IsPermutation rs ss → Makes t rs last → Makes t ss last
makes-permuted t rs ss last h p m =
    let same = same-permuted t rs ss h p in
    let places = All-permutation (HasPlace t) rs ss p
    (All-from_recursion (HasPlace t) rs (places-made t rs last (all_apart rs h) m)) in
    subst (Makes t ss) (same.1 ∙ sym (makes-all t rs last m))
    (makes-places t ss same.0 (recursion_from_All (HasPlace t) ss places))

pub makes-same : (t : Term) (rs ss : List Replacement) (a b : Term) → PairwiseSeparate rs
    → IsPermutation rs ss → Makes t rs a → Makes t ss b → a ≡ b
makes-same t rs ss a b h p m n = makes-one t ss a b (makes-permuted t rs ss a h p m) n
