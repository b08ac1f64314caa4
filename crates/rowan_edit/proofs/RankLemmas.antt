-- The order in which an editor keeps its edits, and one more edit among them.
use Rattle.std.proofs.Common.{◌≡◌, ◌≢◌, ℕ, suc, ◌+◌, ◌<◌, ◌≤◌, true, false, List, [], ◌∷◌}
use Rattle.std.proofs.Common.{◌++◌, length, append_assoc, inl, inr, refl, sym, ◌∙◌, ap, subst, arith}
use Rattle.std.specs.Prelude.{◌⊎◌, ◌&&◌, cond, not}
use Rattle.std.specs.List.{AllByRecursion, Contains}
use Rattle.std.specs.List.Sorted.{IsStrictlySortedBy}
use Rattle.std.specs.Map.{keys_of}
use Rattle.std.specs.BTreeMap.Range.{entries_between}
use Rattle.std.specs.Cmp.{IsTotalOrder, nat_cmp_is}
use Rattle.std.specs.Cmp.Lexicographic.{slice_cmp}
use Rattle.std.specs.Ordering.{nat_cmp, ordering_then, ordering_reverse, is_le}
use Rattle.std.specs.declared.cmp.Ordering.{Ordering}
use Rattle.std.specs.declared.cmp.Ordering.TheVariants.{Less, Equal, Greater}
use Rattle.std.specs.declared.ops.Bound.TheVariants.{Included, Excluded, Unbounded}
use Rattle.std.proofs.lemmas.Bool.{cases_Bool, cases_order}
use Rattle.std.proofs.lemmas.Cmp.{nat_cmp_total, nat_list_cmp_total, on_total, then_total, tied_itself}
use Rattle.std.proofs.lemmas.Map.Lookups.{exact_bytes, exact_unsigned}
use Rattle.rowan_terms.specs.Path.{Path}
use Rattle.rowan_table.specs.Cursor.{last_index}
use Rattle.rowan_edit.specs.declared.ranked.Body.{Body}
use Rattle.rowan_edit.specs.declared.ranked.Rank.{Rank}
use Rattle.rowan_changes.specs.Edit.{Edit, ends_before, lies_before, place}
use Rattle.rowan_changes.specs.Plan.{EndInTurn, HasConflict}
use Rattle.rowan_edit.specs.Ranked.{without_last, rank_cmp, edit_in, edits_in, ends_first, IsRanked}
use Rattle.rowan_edit.specs.Ranked.{IsNext, Cut, HasRoom}
use Rattle.rowan_changes.proofs.Places.{Before, true-before}
use Rattle.rowan_edit.proofs.PlanLemmas.{EndsBeforeEach, ends-trans}
use Rattle.rowan_edit.proofs.PlanLemmas.{ends-before-rest, conflict-is}

-- ---- a path and its last index

pub front-last : (p : Path) → 0 < length p → without_last p ++ last_index p ∷ [] ≡ p
front-last [] h = absurd (omega arith)
front-last (i ∷ []) h = refl
front-last (i ∷ j ∷ p) h = ap (λ q. i ∷ q) (front-last (j ∷ p) (omega arith))

pub front-of : (p : Path) (i : ℕ) → without_last (p ++ i ∷ []) ≡ p
front-of [] i = refl
front-of (j ∷ []) i = refl
front-of (j ∷ k ∷ p) i = ap (λ q. j ∷ q) (front-of (k ∷ p) i)

pub last-of : (p : Path) (i : ℕ) → last_index (p ++ i ∷ []) ≡ i
last-of [] i = refl
last-of (j ∷ []) i = refl
last-of (j ∷ k ∷ p) i = last-of (k ∷ p) i

-- nothing lies before a path that is empty
pub lies-nowhere : (p : Path) (end : ℕ) (z : Path) → length z ≡ 0 → false ≡ lies_before p end z
lies-nowhere p end [] h = refl
lies-nowhere p end (k ∷ z) h = absurd (omega arith)

-- ---- the order of ranks

pub rank-total : IsTotalOrder rank_cmp
rank-total =
    then_total (on_total (λ (r : Rank). r.place.items) nat_list_cmp_total)
    (then_total (on_total (λ (r : Rank). r.end) nat_cmp_total)
    (on_total (λ (r : Rank). r.count) nat_cmp_total))

less-is : (x y : ℕ) → x < y → nat_cmp x y ≡ Less
less-is x y h = sym (nat_cmp_is x y Less h)

greater-is : (x y : ℕ) → y < x → nat_cmp x y ≡ Greater
greater-is x y h = sym (nat_cmp_is x y Greater h)

equal-is : (x y : ℕ) → x ≡ y → nat_cmp x y ≡ Equal
equal-is x y h = sym (nat_cmp_is x y Equal h)

-- by the places and the ends alone
abbrev place_cmp : Rank → Rank → Ordering
place_cmp r s = ordering_then (slice_cmp nat_cmp r.place.items s.place.items) (nat_cmp r.end s.end)

-- what was added later is greater only by its place or its end
less-place : (a b c : Ordering) → c ≡ Greater → ordering_then a (ordering_then b c) ≡ Less
    → ordering_then a b ≡ Less
less-place Less b c e h = refl
less-place Equal Less c e h = refl
less-place Equal Equal c e h = absurd cc
less-place Equal Greater c e h = absurd cc
less-place Greater b c e h = absurd cc

greater-place : (a b c : Ordering) → ordering_then a (ordering_then b c) ≡ Greater
    → (ordering_then a b ≡ Greater) ⊎ ((a ≡ Equal) × (b ≡ Equal))
greater-place Less b c h = absurd cc
greater-place Equal Less c h = absurd cc
greater-place Equal Equal c h = inr (refl, refl)
greater-place Equal Greater c h = inl refl
greater-place Greater b c h = inl refl

not-equal : (a b c : Ordering) → c ≡ Greater → ordering_then a (ordering_then b c) ≢ Equal
not-equal Less b c e h = cc
not-equal Equal Less c e h = cc
not-equal Equal Equal c e h = cc
not-equal Equal Greater c e h = cc
not-equal Greater b c e h = cc

place-back : (r s : Rank) → place_cmp r s ≡ Less → place_cmp s r ≡ Greater
place-back r s h =
    (then_total (on_total (λ (x : Rank). x.place.items) nat_list_cmp_total)
    (on_total (λ (x : Rank). x.end) nat_cmp_total)).antisymm s r
    ∙ ap ordering_reverse h

-- what ends before a place begins before it, or takes nothing away there
begins-first : (p z : Path) (s end : ℕ) → Before p end z → s ≤ end
    → (slice_cmp nat_cmp (p ++ s ∷ []) z ≡ Less) ⊎ ((p ++ s ∷ [] ≡ z) × (end ≤ s))
begins-first p [] s end h le = absurd h
begins-first [] (k ∷ []) s end h le = elim (cases_order s k) [
  | inl same ↦ inr (ap (λ x. x ∷ []) same, omega (arith, same, h))
  | inr other ↦ elim other [
    | inl less ↦ inl (ap (λ o. ordering_then o Equal) (less-is s k less))
    | inr more ↦ absurd (omega (arith, more, h, le))
  ]
]
begins-first [] (k ∷ j ∷ z) s end h le = elim (cases_order s k) [
  | inl same ↦ inl (ap (λ o. ordering_then o Less) (equal-is s k same))
  | inr other ↦ elim other [
    | inl less ↦ inl (ap (λ o. ordering_then o Less) (less-is s k less))
    | inr more ↦ absurd (omega (arith, more, h, le))
  ]
]
begins-first (i ∷ p) (k ∷ z) s end h le = elim h [
  | inl less ↦ inl (ap (λ o. ordering_then o (slice_cmp nat_cmp (p ++ s ∷ []) z)) (less-is i k less))
  | inr both ↦
      let first = ap (λ o. ordering_then o (slice_cmp nat_cmp (p ++ s ∷ []) z))
      (equal-is i k both.0) in elim (begins-first p z s end both.1 le) [
        | inl less ↦ inl (first ∙ less)
        | inr rest ↦ inr (cc (both.0, rest.0), rest.1)
      ]
]

-- ---- edits by their ranks

pub ends-is : (r s : Rank) (b c : Body) → 0 < length s.place.items
    → ends_before (edit_in (r, b)) (edit_in (s, c)) ≡ ends_first r s
ends-is r s b c h =
    ap (lies_before (without_last r.place.items) r.end) (front-last s.place.items h)

-- an edit does not end before another one which is less by its place and its end
later-apart : (r s : Rank) → 0 < length r.place.items → last_index r.place.items ≤ r.end
    → last_index s.place.items ≤ s.end → place_cmp r s ≡ Greater → ends_first r s ≡ false
later-apart r s long own order h = elim (cases_Bool (ends_first r s)) [
  | inl ends ↦ absurd (none (begins-first (without_last r.place.items) s.place.items
      (last_index r.place.items) r.end
      (true-before (without_last r.place.items) r.end s.place.items ends) own))
  | inr free ↦ free
]
  where
    whole : without_last r.place.items ++ last_index r.place.items ∷ [] ≡ r.place.items
    whole = front-last r.place.items long

    few : nat_cmp r.end s.end ≡ Greater → r.end ≤ s.end → ⊥
    few g le = elim (cases_order r.end s.end) [
      | inl same ↦ cc (equal-is r.end s.end same, g)
      | inr other ↦ elim other [
        | inl less ↦ cc (less-is r.end s.end less, g)
        | inr more ↦ omega (arith, more, le)
      ]
    ]

    none : ((slice_cmp nat_cmp (without_last r.place.items ++ last_index r.place.items ∷ [])
        s.place.items ≡ Less)
        ⊎ ((without_last r.place.items ++ last_index r.place.items ∷ [] ≡ s.place.items)
        × (r.end ≤ last_index r.place.items))) → ⊥
    none (inl less) =
        let first : slice_cmp nat_cmp r.place.items s.place.items ≡ Less =
        subst (λ p. slice_cmp nat_cmp p s.place.items ≡ Less) whole less in
        let is : place_cmp r s ≡ Less = ap (λ o. ordering_then o (nat_cmp r.end s.end)) first in
        cc (is, h)
    none (inr both) =
        let same : r.place.items ≡ s.place.items = sym whole ∙ both.0 in
        let tied : slice_cmp nat_cmp r.place.items s.place.items ≡ Equal =
        subst (λ p. slice_cmp nat_cmp r.place.items p ≡ Equal) same
        (tied_itself nat_list_cmp_total r.place.items) in
        let last : last_index r.place.items ≡ last_index s.place.items = ap last_index same in
        let le : r.end ≤ s.end = omega (arith, both.1, last, order) in
        let is : place_cmp r s ≡ nat_cmp r.end s.end =
        ap (λ o. ordering_then o (nat_cmp r.end s.end)) tied in
        few (sym is ∙ h) le

-- ---- the edits in front of a rank, and those behind it

-- those behind an edit are behind a rank that the edit is behind of
all-less : (r : Rank) (e : Rank × Body) (fs : List (Rank × Body)) → rank_cmp r e.0 ≡ Less
    → AllByRecursion (λ k. rank_cmp e.0 k ≡ Less) (keys_of fs)
    → AllByRecursion (λ f. rank_cmp r f.0 ≡ Less) fs
all-less r e [] less a = tt
all-less r e (f ∷ fs) less a =
    (rank-total.trans r e.0 f.0 less a.0, all-less r e fs less a.1)

cut-next : (r : Rank) (e : Rank × Body) (es : List (Rank × Body)) (o : Ordering)
    → rank_cmp r e.0 ≡ o → AllByRecursion (λ k. rank_cmp e.0 k ≡ Less) (keys_of es)
    → e.0.count < r.count → Cut es r → Cut (e ∷ es) r
cut-next r e es Less h later newest c = record {
  front = [];
  behind = e ∷ es;
  is = refl;
  greater = tt;
  less = (h, all-less r e es h later);
}
cut-next r e es Equal h later newest c =
    absurd (not-equal (slice_cmp nat_cmp r.place.items e.0.place.items) (nat_cmp r.end e.0.end)
    (nat_cmp r.count e.0.count) (greater-is r.count e.0.count newest) h)
cut-next r e es Greater h later newest c = record {
  front = e ∷ c.front;
  behind = c.behind;
  is = ap (λ fs. e ∷ fs) c.is;
  greater = (h, c.greater);
  less = c.less;
}

pub cut-at : (r : Rank) (es : List (Rank × Body)) → IsStrictlySortedBy rank_cmp (keys_of es)
    → AllByRecursion (λ e. e.0.count < r.count) es → Cut es r
unfolding IsStrictlySortedBy
cut-at r [] sorted newest =
    record { front = []; behind = []; is = refl; greater = tt; less = tt }
cut-at r (e ∷ es) sorted newest =
    cut-next r e es (rank_cmp r e.0) refl sorted.0 newest.0 (cut-at r es sorted.1 newest.1)

-- what a map has below a rank, and from it on
pub below-is : (r : Rank) (front behind : List (Rank × Body))
    → AllByRecursion (λ e. rank_cmp r e.0 ≡ Greater) front
    → AllByRecursion (λ e. rank_cmp r e.0 ≡ Less) behind
    → entries_between rank_cmp Unbounded (Excluded r) (front ++ behind) ≡ front
below-is r [] [] a b = refl
below-is r [] (e ∷ es) a b =
    let rest = entries_between rank_cmp Unbounded (Excluded r) es in
    ap (λ o. cond (not (is_le o)) (e ∷ rest) rest) b.0 ∙ below-is r [] es tt b.1
below-is r (e ∷ es) behind a b =
    let rest = entries_between rank_cmp Unbounded (Excluded r) (es ++ behind) in
    ap (λ o. cond (not (is_le o)) (e ∷ rest) rest) a.0
    ∙ ap (λ fs. e ∷ fs) (below-is r es behind a.1 b)

pub above-is : (r : Rank) (front behind : List (Rank × Body))
    → AllByRecursion (λ e. rank_cmp r e.0 ≡ Greater) front
    → AllByRecursion (λ e. rank_cmp r e.0 ≡ Less) behind
    → entries_between rank_cmp (Included r) Unbounded (front ++ behind) ≡ behind
above-is r [] [] a b = refl
above-is r [] (e ∷ es) a b =
    let rest = entries_between rank_cmp (Included r) Unbounded es in
    ap (λ o. cond (is_le o && true) (e ∷ rest) rest) b.0
    ∙ ap (λ fs. e ∷ fs) (above-is r [] es tt b.1)
above-is r (e ∷ es) behind a b =
    let rest = entries_between rank_cmp (Included r) Unbounded (es ++ behind) in
    ap (λ o. cond (is_le o && true) (e ∷ rest) rest) a.0 ∙ above-is r es behind a.1 b

-- ---- the neighbours of a rank

pub at-mid : {A : Type 0} (P : A → Type 0) (xs : List A) (x : A) (ys : List A)
    → AllByRecursion P (xs ++ x ∷ ys) → P x
at-mid P [] x ys a = a.0
at-mid P (z ∷ xs) x ys a = at-mid P xs x ys a.1

orders-mid : (xs : List (Rank × Body)) (x : Rank × Body) (ys : List (Rank × Body))
    → EndInTurn (edits_in (xs ++ x ∷ ys)) → last_index x.0.place.items ≤ x.0.end
orders-mid [] x ys t = t.0
orders-mid (z ∷ xs) x ys t = orders-mid xs x ys t.2

edits-mid : (P : Edit → Type 0) (xs : List (Rank × Body)) (x : Rank × Body)
    (ys : List (Rank × Body)) → AllByRecursion P (edits_in (xs ++ x ∷ ys)) → P (edit_in x)
edits-mid P [] x ys a = a.0
edits-mid P (z ∷ xs) x ys a = edits-mid P xs x ys a.1

turn-behind : (xs ys : List (Rank × Body)) → EndInTurn (edits_in (xs ++ ys))
    → EndInTurn (edits_in ys)
turn-behind [] ys t = t
turn-behind (x ∷ xs) ys t = turn-behind xs ys t.2

all-behind : {A : Type 0} (P : A → Type 0) (xs ys : List A) → AllByRecursion P (xs ++ ys)
    → AllByRecursion P ys
all-behind P [] ys a = a
all-behind P (x ∷ xs) ys a = all-behind P xs ys a.1

contains-mid : (xs : List (Rank × Body)) (x : Rank × Body) (ys : List (Rank × Body))
    → Contains (edits_in (xs ++ x ∷ ys)) (edit_in x)
contains-mid [] x ys = (0, omega arith, refl)
contains-mid (z ∷ xs) x ys =
    let c = contains-mid xs x ys in (suc c.0, omega (arith, c.1), c.2)

-- the edits around the last one in front of a rank, and around the first one behind it
pub front-mid : (es : List (Rank × Body)) (r : Rank) (c : Cut es r) (rest : List (Rank × Body))
    (x : Rank × Body) → c.front ≡ rest ++ x ∷ [] → es ≡ rest ++ x ∷ c.behind
front-mid es r c rest x last =
    c.is ∙ ap (λ fs. fs ++ c.behind) last ∙ append_assoc rest (x ∷ []) c.behind

pub behind-mid : (es : List (Rank × Body)) (r : Rank) (c : Cut es r) (rest : List (Rank × Body))
    (x : Rank × Body) → c.behind ≡ x ∷ rest → es ≡ c.front ++ x ∷ rest
behind-mid es r c rest x first = c.is ∙ ap (λ fs. c.front ++ fs) first

-- the edits in front of a rank end before it, if the last of them does
pub front-ends : (r : Rank) (rest : List (Rank × Body)) (x : Rank × Body)
    (behind : List (Rank × Body)) → EndInTurn (edits_in (rest ++ x ∷ behind))
    → 0 < length r.place.items → ends_first x.0 r ≡ true
    → AllByRecursion (λ e. ends_first e.0 r ≡ true) (rest ++ x ∷ [])
front-ends r [] x behind t long h = (h, tt)
front-ends r (d ∷ rest) x behind t long h =
    let near : ends_before (edit_in d) (edit_in x) ≡ true =
    edits-mid (λ f. ends_before (edit_in d) f ≡ true) rest x behind t.1 in
    let far : ends_before (edit_in d) (edit_in (r, x.1)) ≡ true =
    ends-trans (edit_in d) (edit_in x) (edit_in (r, x.1)) near (orders-mid rest x behind t.2)
    (ends-is x.0 r x.1 x.1 long ∙ h) in
    (sym (ends-is d.0 r d.1 x.1 long) ∙ far, front-ends r rest x behind t.2 long h)

-- an edit ends before those behind it, if it does before the first of them
pub behind-ends : (r : Rank) (front : List (Rank × Body)) (x : Rank × Body)
    (rest : List (Rank × Body)) → EndInTurn (edits_in (front ++ x ∷ rest))
    → AllByRecursion IsRanked (front ++ x ∷ rest) → ends_first r x.0 ≡ true
    → AllByRecursion (λ e. ends_first r e.0 ≡ true) (x ∷ rest)
behind-ends r front x rest t ranked h =
    let own : AllByRecursion IsRanked (x ∷ rest) = all-behind IsRanked front (x ∷ rest) ranked in
    each (x ∷ rest) own (ends-before-rest (edit_in (r, x.1)) (edit_in x) (edits_in rest)
    (turn-behind front (x ∷ rest) t) (ends-is r x.0 x.1 x.1 own.0 ∙ h))
  where
    each : (fs : List (Rank × Body)) → AllByRecursion IsRanked fs
        → EndsBeforeEach (edit_in (r, x.1)) (edits_in fs)
        → AllByRecursion (λ e. ends_first r e.0 ≡ true) fs
    each [] a b = tt
    each (f ∷ fs) a b = (sym (ends-is r f.0 x.1 f.1 a.0) ∙ b.0, each fs a.1 b.1)

-- an edit that is less does not come behind
other-apart : (r s : Rank) → rank_cmp r s ≡ Less → s.count < r.count → 0 < length s.place.items
    → last_index s.place.items ≤ s.end → last_index r.place.items ≤ r.end
    → ends_first s r ≡ false
other-apart r s less newest long order own =
    later-apart s r long order own (place-back r s (less-place
    (slice_cmp nat_cmp r.place.items s.place.items) (nat_cmp r.end s.end)
    (nat_cmp r.count s.count) (greater-is r.count s.count newest) less))

pub others-apart : (r : Rank) (es : List (Rank × Body))
    → AllByRecursion (λ e. rank_cmp r e.0 ≡ Less) es
    → AllByRecursion (λ e. e.0.count < r.count) es → AllByRecursion IsRanked es
    → EndInTurn (edits_in es) → last_index r.place.items ≤ r.end
    → AllByRecursion (λ e. ends_first e.0 r ≡ false) es
others-apart r [] less newest ranked t own = tt
others-apart r (e ∷ es) less newest ranked t own = (
  other-apart r e.0 less.0 newest.0 ranked.0 t.0 own,
  others-apart r es less.1 newest.1 ranked.1 t.2 own,
)

-- one that is greater only since it was added later ends before another one as that does before it
first-apart : (r s : Rank) → rank_cmp r s ≡ Greater → 0 < length r.place.items
    → last_index r.place.items ≤ r.end → last_index s.place.items ≤ s.end
    → ends_first s r ≡ false → ends_first r s ≡ false
first-apart r s more long own order h =
    elim (greater-place (slice_cmp nat_cmp r.place.items s.place.items) (nat_cmp r.end s.end)
    (nat_cmp r.count s.count) more) [
      | inl above ↦ later-apart r s long own order above
      | inr both ↦
          let at : r.place.items ≡ s.place.items =
          exact_bytes r.place.items s.place.items both.0 in
          let end : r.end ≡ s.end = exact_unsigned r.end s.end both.1 in
          ap (λ p. lies_before (without_last p) r.end s.place.items) at
          ∙ ap (λ n. lies_before (without_last s.place.items) n s.place.items) end
          ∙ ap (λ p. lies_before (without_last s.place.items) s.end p) (sym at) ∙ h
    ]

pub conflict-below : (r : Rank) (b : Body) (es : List (Rank × Body)) (c : Cut es r)
    (rest : List (Rank × Body)) (x : Rank × Body) → IsNext es r → c.front ≡ rest ++ x ∷ []
    → ends_first x.0 r ≡ false → HasConflict (edits_in es) (edit_in (r, b))
conflict-below r b es c rest x next last h =
    let mid = front-mid es r c rest x last in
    let own = at-mid IsRanked rest x c.behind (subst (AllByRecursion IsRanked) mid next.ranked) in
    let order = orders-mid rest x c.behind (subst (λ fs. EndInTurn (edits_in fs)) mid next.turn) in
    let more : rank_cmp r x.0 ≡ Greater =
    at-mid (λ e. rank_cmp r e.0 ≡ Greater) rest x []
    (subst (AllByRecursion (λ e. rank_cmp r e.0 ≡ Greater)) last c.greater) in (
      edit_in x,
      subst (λ fs. Contains (edits_in fs) (edit_in x)) (sym mid) (contains-mid rest x c.behind),
      conflict-is (edit_in x) (edit_in (r, b)) (ends-is x.0 r x.1 b next.place ∙ h)
          (ends-is r x.0 b x.1 own
          ∙ first-apart r x.0 more next.place next.order order h),
    )

pub conflict-above : (r : Rank) (b : Body) (es : List (Rank × Body)) (c : Cut es r)
    (rest : List (Rank × Body)) (x : Rank × Body) → IsNext es r → c.behind ≡ x ∷ rest
    → ends_first r x.0 ≡ false → HasConflict (edits_in es) (edit_in (r, b))
conflict-above r b es c rest x next first h =
    let mid = behind-mid es r c rest x first in
    let own = at-mid IsRanked c.front x rest (subst (AllByRecursion IsRanked) mid next.ranked) in
    let newest = at-mid (λ e. e.0.count < r.count) c.front x rest
    (subst (AllByRecursion (λ e. e.0.count < r.count)) mid next.newest) in
    let order = orders-mid c.front x rest
    (subst (λ fs. EndInTurn (edits_in fs)) mid next.turn) in
    let less : rank_cmp r x.0 ≡ Less =
    (subst (AllByRecursion (λ e. rank_cmp r e.0 ≡ Less)) first c.less).0 in (
      edit_in x,
      subst (λ fs. Contains (edits_in fs) (edit_in x)) (sym mid) (contains-mid c.front x rest),
      conflict-is (edit_in x) (edit_in (r, b)) (ends-is x.0 r x.1 b next.place
          ∙ other-apart r x.0 less newest own order next.order) (ends-is r x.0 b x.1 own ∙ h),
    )

-- ---- what a map lends below a rank, and from it on

front-is : (es : List (Rank × Body)) (r : Rank) (c : Cut es r) (lent : List (Rank × Body))
    → lent ≡ entries_between rank_cmp Unbounded (Excluded r) es → c.front ≡ lent
front-is es r c lent h =
    sym (below-is r c.front c.behind c.greater c.less)
    ∙ ap (entries_between rank_cmp Unbounded (Excluded r)) (sym c.is) ∙ sym h

behind-is : (es : List (Rank × Body)) (r : Rank) (c : Cut es r) (lent : List (Rank × Body))
    → lent ≡ entries_between rank_cmp (Included r) Unbounded es → c.behind ≡ lent
behind-is es r c lent h =
    sym (above-is r c.front c.behind c.greater c.less)
    ∙ ap (entries_between rank_cmp (Included r) Unbounded) (sym c.is) ∙ sym h

module _ (es : List (Rank × Body)) (r : Rank) (next : IsNext es r)
    (lent : List (Rank × Body)) where
  pub ends-below : (rest : List (Rank × Body)) (x : Rank × Body)
      → lent ≡ entries_between rank_cmp Unbounded (Excluded r) es → lent ≡ rest ++ x ∷ []
      → ends_first x.0 r ≡ true → (c : Cut es r)
      → AllByRecursion (λ e. ends_first e.0 r ≡ true) c.front
  ends-below rest x below last ends c =
      let is : c.front ≡ rest ++ x ∷ [] = front-is es r c lent below ∙ last in
      subst (AllByRecursion (λ e. ends_first e.0 r ≡ true)) (sym is)
      (front-ends r rest x c.behind
      (subst (λ fs. EndInTurn (edits_in fs)) (front-mid es r c rest x is) next.turn)
      next.place ends)

  pub none-below : lent ≡ entries_between rank_cmp Unbounded (Excluded r) es → lent ≡ []
      → (c : Cut es r) → AllByRecursion (λ e. ends_first e.0 r ≡ true) c.front
  none-below below none c =
      subst (AllByRecursion (λ e. ends_first e.0 r ≡ true))
      (sym (front-is es r c lent below ∙ none)) tt

  pub meets-below : (rest : List (Rank × Body)) (x : Rank × Body) → Cut es r
      → lent ≡ entries_between rank_cmp Unbounded (Excluded r) es → lent ≡ rest ++ x ∷ []
      → ends_first x.0 r ≡ false → (b : Body) → HasConflict (edits_in es) (edit_in (r, b))
  meets-below rest x c below last ends b =
      conflict-below r b es c rest x next (front-is es r c lent below ∙ last) ends

  pub ranked-below : (rest : List (Rank × Body)) (x : Rank × Body) → Cut es r
      → lent ≡ entries_between rank_cmp Unbounded (Excluded r) es → lent ≡ rest ++ x ∷ []
      → IsRanked x
  ranked-below rest x c below last =
      at-mid IsRanked rest x c.behind (subst (AllByRecursion IsRanked)
      (front-mid es r c rest x (front-is es r c lent below ∙ last)) next.ranked)

  pub ends-above : (rest : List (Rank × Body)) (x : Rank × Body)
      → lent ≡ entries_between rank_cmp (Included r) Unbounded es → lent ≡ x ∷ rest
      → ends_first r x.0 ≡ true → (c : Cut es r)
      → AllByRecursion (λ e. ends_first r e.0 ≡ true) c.behind
  ends-above rest x above first ends c =
      let is : c.behind ≡ x ∷ rest = behind-is es r c lent above ∙ first in
      let mid = behind-mid es r c rest x is in
      subst (AllByRecursion (λ e. ends_first r e.0 ≡ true)) (sym is)
      (behind-ends r c.front x rest (subst (λ fs. EndInTurn (edits_in fs)) mid next.turn)
      (subst (AllByRecursion IsRanked) mid next.ranked) ends)

  pub none-above : lent ≡ entries_between rank_cmp (Included r) Unbounded es → lent ≡ []
      → (c : Cut es r) → AllByRecursion (λ e. ends_first r e.0 ≡ true) c.behind
  none-above above none c =
      subst (AllByRecursion (λ e. ends_first r e.0 ≡ true))
      (sym (behind-is es r c lent above ∙ none)) tt

  pub meets-above : (rest : List (Rank × Body)) (x : Rank × Body) → Cut es r
      → lent ≡ entries_between rank_cmp (Included r) Unbounded es → lent ≡ x ∷ rest
      → ends_first r x.0 ≡ false → (b : Body) → HasConflict (edits_in es) (edit_in (r, b))
  meets-above rest x c above first ends b =
      conflict-above r b es c rest x next (behind-is es r c lent above ∙ first) ends

-- there is room if the edits in front end before it, and it ends before those behind it
pub has-room : (es : List (Rank × Body)) (r : Rank) → IsNext es r → (c : Cut es r)
    → AllByRecursion (λ e. ends_first e.0 r ≡ true) c.front
    → AllByRecursion (λ e. ends_first r e.0 ≡ true) c.behind → HasRoom es r
has-room es r next c before after = record {
  cut = c;
  before = before;
  others = others-apart r c.behind c.less
      (all-behind (λ e. e.0.count < r.count) c.front c.behind
      (subst (AllByRecursion (λ e. e.0.count < r.count)) c.is next.newest))
      (all-behind IsRanked c.front c.behind (subst (AllByRecursion IsRanked) c.is next.ranked))
      (turn-behind c.front c.behind (subst (λ fs. EndInTurn (edits_in fs)) c.is next.turn))
      next.order;
  after = after;
}
