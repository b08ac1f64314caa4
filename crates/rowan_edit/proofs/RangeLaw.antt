-- Where an element's range goes that no edit touches: by as many bytes as the edits before it make
-- the text longer or shorter. And where the changes say that it goes.
use Rattle.std.proofs.Common.{◌≡◌, ℕ, suc, ◌+◌, ◌-◌, ◌<◌, ◌≤◌, Bool, true, false, List}
use Rattle.std.proofs.Common.{[], ◌∷◌, ◌++◌, length, cond, Some, None, inl, inr}
use Rattle.std.proofs.Common.{refl, sym, ◌∙◌, ap, subst, arith}
use Rattle.std.specs.Prelude.{◌⊎◌, nat_lt, nat_le, ◌&&◌, ◌||◌, if◌then◌else◌}
use Rattle.std.specs.List.{AllByRecursion, filter, list_any}
use Rattle.std.proofs.lemmas.Bool.{lt-ltb, le-ltb, le-leb, ne_eqb, cases_lt, cases_Bool}
use Rattle.std.proofs.lemmas.Bool.{cases_order}
use Rattle.std.proofs.lemmas.Bool.Decides.{Decides-eqb}
use Rattle.rowan_green.specs.declared.utility_types.NodeOrToken.TheVariants.{Node}
use Rattle.rowan_green.specs.Fits.{Fits, byte_limit}
use Rattle.rowan_terms.specs.Path.{Path, subterm, offset, leaves, len_of, range, shifted}
use Rattle.rowan_green.specs.Span.{Span}
use Rattle.rowan_green.specs.Term.{NodeTerm, Term, term_len, sum_of_lens}
use Rattle.rowan_terms.proofs.OffsetLemmas.{lens_before, offset-lens, range-within}
use Rattle.rowan_terms.proofs.OffsetLemmas.{offset_of-within}
use Rattle.rowan_green.proofs.Terms.{Fits-len}
use Rattle.rowan_changes.specs.declared.changes.Change.{Change}
use Rattle.rowan_changes.specs.Changes.{end_place, range_of, change_of, changes_of}
use Rattle.rowan_changes.specs.Changes.{edits_before, old_bytes, new_bytes}
use Rattle.rowan_changes.specs.Changes.{is_ahead, overlaps, within_limit, moved_through}
use Rattle.rowan_changes.specs.ChangesKept.{Follow, last_end}
use Rattle.rowan_changes.specs.Edit.{Edit, edited, edited_once, place, ends_before, lies_before}
use Rattle.rowan_changes.specs.Moved.{moved_path, moved_by, IsUntouched, IsUntouchedBy}
use Rattle.rowan_changes.specs.Plan.{IsOf, EndInTurn, AreInOrder}
use Rattle.rowan_edit.proofs.KeptLemmas.{untouched-by, elements-kept}
use Rattle.rowan_changes.proofs.Places.{Before, true-before, before-true, before-trans}
use Rattle.rowan_changes.proofs.ShiftLemmas.{reach, behind-element, grown, shifts}
use Rattle.rowan_changes.proofs.TextLaw.{before-less, all-before, place-in, stays-all}
use Rattle.rowan_changes.proofs.Untouched.{moved-before}

-- ---- on which side of an edit an element lies

pub split-last : (i : ℕ) (z : Path) → (q : Path) × ((k : ℕ) × (i ∷ z ≡ q ++ k ∷ []))
split-last i [] = ([], (i, refl))
split-last i (j ∷ z) =
    let r = split-last j z in (i ∷ r.0, (r.1.0, ap (λ p. i ∷ p) r.1.1))

-- an element that an edit does not touch lies behind it, or ends before it begins
side : (p : Path) (s e : ℕ) (q : Path) (k : ℕ) → IsUntouched p s e (q ++ k ∷ [])
    → Before p e (q ++ k ∷ []) ⊎ Before q (suc k) (p ++ s ∷ [])
side [] s e [] k h = elim h [ inl less ↦ inr (omega (arith, less)) | inr more ↦ inl more ]
side [] s e (j ∷ q) k h = elim h [ inl less ↦ inr (inl less) | inr more ↦ inl more ]
side (i ∷ p) s e [] k h = elim h [
  | inl other ↦ elim (cases_order i k) [
    | inl same ↦ absurd (other same)
    | inr less ↦ elim less [ inl a ↦ inl (inl a) | inr b ↦ inr (omega (arith, b)) ]
  ]
  | inr both ↦ absurd both.1
]
side (i ∷ p) s e (j ∷ q) k h = elim h [
  | inl other ↦ elim (cases_order i j) [
    | inl same ↦ absurd (other same)
    | inr less ↦ elim less [ inl a ↦ inl (inl a) | inr b ↦ inr (inl b) ]
  ]
  | inr both ↦ elim (side p s e q k both.1) [
    | inl a ↦ inl (inr (both.0, a))
    | inr b ↦ inr (inr (sym both.0, b))
  ]
]

-- no place lies before itself
not-before-itself : (q : Path) (k : ℕ) → Before q (suc k) (q ++ k ∷ []) → ⊥
not-before-itself [] k h = omega (arith, h)
not-before-itself (i ∷ q) k h = elim h [
  | inl less ↦ omega (arith, less)
  | inr both ↦ not-before-itself q k both.1
]

false-before : (p : Path) (e : ℕ) (z : Path) → lies_before p e z ≡ false → Before p e z → ⊥
false-before p e z h b = let t : true ≡ false = sym (before-true p e z b) ∙ h in cc

before-false : (p : Path) (e : ℕ) (z : Path) → (Before p e z → ⊥) → lies_before p e z ≡ false
before-false p e z h = elim (cases_Bool (lies_before p e z)) [
  | inl is ↦ absurd (h (true-before p e z is))
  | inr not_so ↦ not_so
]

-- what an edit does not touch, and what does not lie behind it, keeps its path
still : (p : Path) (s e len : ℕ) (z : Path) → IsUntouched p s e z → (Before p e z → ⊥)
    → moved_path p s e len z ≡ z
still p s e len [] u n = absurd u
still [] s e len (k ∷ z) u n = elim (cases_lt k e) [
  | inl less ↦ ap (λ b. (if b then k else k - e + s + len) ∷ z) (lt-ltb k e less)
  | inr more ↦ absurd (n more)
]
still (i ∷ p) s e len (k ∷ z) u n =
    let y = moved_path p s e len z in elim u [
      | inl other ↦ ap (λ b. if b then k ∷ y else k ∷ z) (ne_eqb i k other)
      | inr both ↦ ap (λ b. if b then k ∷ y else k ∷ z) ((Decides-eqb i k).1 both.0)
          ∙ ap (λ x. k ∷ x) (still p s e len z both.1 (λ b. n (inr (both.0, b))))
    ]

-- what lies behind a place lies behind it once edits behind the place are made
behind-moved : (q : Path) (n : ℕ) (es : List Edit) (z : Path) → Before q n z
    → AllByRecursion (λ e. Before q n (place e)) es → EndInTurn es
    → AllByRecursion (λ e. IsUntouchedBy e z) es → Before q n (moved_by es z)
behind-moved q n [] z h b turn out = h
behind-moved q n (e ∷ es) z h b turn out =
    let y = moved_by es z in
    let rest : Before q n y = behind-moved q n es z h b.1 turn.2 out.1 in
    let u = untouched-by e es z out.0 turn.2 turn.1 in
    elim (cases_Bool (lies_before e.parent e.end y)) [
      | inl near ↦ moved-before q n e.parent e.start e.end (length e.new) y b.0 turn.0
          (true-before e.parent e.end y near)
      | inr far ↦ subst (Before q n) (sym (still e.parent e.start e.end (length e.new) y u
          (false-before e.parent e.end y far))) rest
    ]

-- ---- edits behind an element

abbrev AllBehind : Path → ℕ → List Edit → Type 0
AllBehind q k es = AllByRecursion (λ e. Before q (suc k) (place e)) es

behind-rest : (q : Path) (k : ℕ) (e : Edit) (es : List Edit) → Before q (suc k) (place e)
    → e.start ≤ e.end → AllByRecursion (λ f. ends_before e f ≡ true) es → AllBehind q k es
behind-rest q k e [] h order a = tt
behind-rest q k e (f ∷ es) h order a = (
  before-trans q (suc k) e.parent e.start e.end (place f) h order
      (true-before e.parent e.end (place f) a.0),
  behind-rest q k e es h order a.1,
)

-- an edit behind an element does not end before it
not-near : (q : Path) (k : ℕ) (e : Edit) → Before q (suc k) (place e) → e.start ≤ e.end
    → Before e.parent e.end (q ++ k ∷ []) → ⊥
not-near q k e h order b =
    not-before-itself q k (before-trans q (suc k) e.parent e.start e.end (q ++ k ∷ []) h order b)

path-still : (q : Path) (k : ℕ) (es : List Edit) → AllBehind q k es → EndInTurn es
    → AllByRecursion (λ e. IsUntouchedBy e (q ++ k ∷ [])) es
    → moved_by es (q ++ k ∷ []) ≡ q ++ k ∷ []
path-still q k [] h turn out = refl
path-still q k (e ∷ es) h turn out =
    ap (moved_path e.parent e.start e.end (length e.new)) (path-still q k es h.1 turn.2 out.1)
    ∙ still e.parent e.start e.end (length e.new) (q ++ k ∷ []) out.0 (not-near q k e h.0 turn.0)

none-near : (q : Path) (k : ℕ) (es : List Edit) → AllBehind q k es → EndInTurn es
    → edits_before (q ++ k ∷ []) es ≡ []
none-near q k [] h turn = refl
none-near q k (e ∷ es) h turn =
    let z = q ++ k ∷ [] in
    ap (λ b. cond b (e ∷ edits_before z es) (edits_before z es))
    (before-false e.parent e.end z (not-near q k e h.0 turn.0)) ∙ none-near q k es h.1 turn.2

starts-behind : (q : Path) (k : ℕ) (es : List Edit) → AllBehind q k es
    → AllByRecursion (λ e. Before q k (place e)) es
starts-behind q k [] h = tt
starts-behind q k (e ∷ es) h =
    (before-less q k (suc k) (place e) h.0 (omega arith), starts-behind q k es h.1)

-- ---- where an element starts

own-place : (p : Path) (s e : ℕ) → s ≤ e → Before p s (p ++ e ∷ [])
own-place [] s e h = h
own-place (i ∷ p) s e h = inr (refl, own-place p s e h)

-- an edit's range ends where it starts, or behind
pub range-order : (t : Term) (e : Edit) → e.start ≤ e.end
    → offset t (place e) ≤ offset t (end_place e)
range-order t e h =
    omega (
      arith,
      offset-lens t (place e),
      offset-lens t (end_place e),
      reach (Some t) e.parent e.start (end_place e) (own-place e.parent e.start e.end h),
    )

moved-start : (root : NodeTerm) (es : List Edit) (q : Path) (k : ℕ) (w : Term)
    → AllByRecursion (IsOf root) es → EndInTurn es
    → AllByRecursion (λ e. IsUntouchedBy e (q ++ k ∷ [])) es
    → subterm (Node root) (q ++ k ∷ []) ≡ Some w
    → lens_before (moved_by es (q ++ k ∷ [])) (leaves (edited (Node root) es))
    + old_bytes (changes_of (Node root) (edits_before (q ++ k ∷ []) es))
    ≡ lens_before (q ++ k ∷ []) (leaves (Node root))
    + new_bytes (changes_of (Node root) (edits_before (q ++ k ∷ []) es))
moved-start root [] q k w of turn out h = omega arith
moved-start root (e ∷ ds) q k w of turn out h =
    let t : Term = Node root in
    let z = q ++ k ∷ [] in
    let u = edited t ds in
    let near = edits_before z ds in
    elim (cases_Bool (lies_before e.parent e.end z)) [
      | inl is ↦
          let starts = all-before e e.start ds turn.0 turn.1 in
          let ends = all-before e e.end ds (omega arith) turn.1 in
          let from = stays-all root ds e.parent e.start starts turn.2 of.1 in
          let to = stays-all root ds e.parent e.end ends turn.2 of.1 in
          let here = to.node (place-in root e of.0) in
          let y = moved_by ds z in
          let b : Before e.parent e.end y =
          behind-moved e.parent e.end ds z (true-before e.parent e.end z is) ends turn.2 out.1 in
          let once : lens_before (moved_path e.parent e.start e.end (length e.new) y)
          (leaves (edited_once u e)) + lens_before (end_place e) (leaves u)
          ≡ lens_before y (leaves u) + sum_of_lens e.new + lens_before (place e) (leaves u) =
          shifts u e.parent e.start e.end e.new here.node y w here.stands turn.0 b
          (elements-kept t ds z w turn.2 out.1 h) in
          omega (
            arith,
            once,
            from.lens,
            to.lens,
            offset-lens t (place e),
            offset-lens t (end_place e),
            range-order t e turn.0,
            moved-start root ds q k w of.1 turn.2 out.1 h,
            ap (λ b. old_bytes (changes_of t (cond b (e ∷ near) near))) is,
            ap (λ b. new_bytes (changes_of t (cond b (e ∷ near) near))) is,
          )
      | inr far ↦
          let first : Before q (suc k) (place e) = elim (side e.parent e.start e.end q k out.0) [
            | inl b ↦ absurd (false-before e.parent e.end z far b)
            | inr b ↦ b
          ] in
          let behind : AllBehind q k (e ∷ ds) =
          (first, behind-rest q k e ds first turn.0 turn.1) in
          let none = none-near q k (e ∷ ds) behind turn in
          omega (
            arith,
            ap (λ y. lens_before y (leaves (edited t (e ∷ ds))))
                (path-still q k (e ∷ ds) behind turn out),
            (stays-all root (e ∷ ds) q k (starts-behind q k (e ∷ ds) behind) turn of).lens,
            ap (λ fs. old_bytes (changes_of t fs)) none,
            ap (λ fs. new_bytes (changes_of t fs)) none,
          )
    ]

both-ends : (a b : Span) → a.start ≡ b.start → a.end ≡ b.end → a ≡ b
both-ends a b s e =
    ap (λ x. record { start = x; end = a.end }) s ∙ ap (λ y. record { start = b.start; end = y }) e

-- an element's range is moved by the differences of the edits before it
abbrev pub IsMoved : NodeTerm → List Edit → Path → Type 0
IsMoved root es z =
    let before = changes_of (Node root) (edits_before z es) in
    range (edited (Node root) es) (moved_by es z)
    ≡ shifted (old_bytes before) (new_bytes before) (range (Node root) z)

last-moved : (root : NodeTerm) (es : List Edit) (q : Path) (k : ℕ) (w : Term) → AreInOrder root es
    → AllByRecursion (λ e. IsUntouchedBy e (q ++ k ∷ [])) es
    → subterm (Node root) (q ++ k ∷ []) ≡ Some w → IsMoved root es (q ++ k ∷ [])
last-moved root es q k w h out at =
    let t : Term = Node root in
    let z = q ++ k ∷ [] in
    let u = edited t es in
    let y = moved_by es z in
    let before = changes_of t (edits_before z es) in
    let starts = moved-start root es q k w h.of_tree h.in_turn out at in
    let s : offset u y ≡ offset t z + new_bytes before - old_bytes before =
    omega (arith, starts, offset-lens u y, offset-lens t z) in
    let old : len_of (subterm t z) ≡ term_len w = ap len_of at in
    let new : len_of (subterm u y) ≡ term_len w =
    ap len_of (elements-kept t es z w h.in_turn out at) in
    let e : offset u y + len_of (subterm u y)
    ≡ offset t z + len_of (subterm t z) + new_bytes before - old_bytes before =
    omega (arith, starts, offset-lens u y, offset-lens t z, old, new) in
    both-ends (range u y) (shifted (old_bytes before) (new_bytes before) (range t z)) s e

pub range-moved : (root : NodeTerm) (es : List Edit) (z : Path) (w : Term) → AreInOrder root es
    → AllByRecursion (λ e. IsUntouchedBy e z) es → subterm (Node root) z ≡ Some w
    → IsMoved root es z
range-moved root [] z w h out at =
    let r = range (Node root) z in
    let s : r.start ≡ r.start + 0 - 0 = omega arith in
    let e : r.end ≡ r.end + 0 - 0 = omega arith in
    both-ends r (shifted 0 0 r) s e
range-moved root (e ∷ es) [] w h out at = absurd out.0
range-moved root (e ∷ es) (i ∷ z) w h out at =
    let r = split-last i z in
    subst (IsMoved root (e ∷ es)) (sym r.1.1) (last-moved root (e ∷ es) r.0 r.1.0 w h
    (subst (λ p. AllByRecursion (λ d. IsUntouchedBy d p) (e ∷ es)) r.1.1 out)
    (ap (subterm (Node root)) (sym r.1.1) ∙ at))

-- ---- what the changes say

-- how the change of an edit lies to an element with text that the edit does not touch
record Lies (t : Term) (e : Edit) (z : Path) : Type 0 where
  ahead : is_ahead (range t z) (change_of t e) ≡ lies_before e.parent e.end z
  apart : overlaps (range t z) (change_of t e) ≡ false

lies : (t : Term) (e : Edit) (q : Path) (k : ℕ) (w : Term) → e.start ≤ e.end
    → IsUntouchedBy e (q ++ k ∷ []) → subterm t (q ++ k ∷ []) ≡ Some w → 0 < term_len w
    → Lies t e (q ++ k ∷ [])
lies t e q k w order out at text =
    let z = q ++ k ∷ [] in
    let r = range t z in
    let c = range_of t e in
    let len : len_of (subterm t z) ≡ term_len w = ap len_of at in
    let own : c.start ≤ c.end = range-order t e order in
    elim (side e.parent e.start e.end q k out) [
      | inl b ↦
          let ends : c.end ≤ r.start =
          omega (
            arith,
            offset-lens t (end_place e),
            offset-lens t z,
            reach (Some t) e.parent e.end z b,
          ) in
          let a : nat_lt c.start r.end ≡ true =
          lt-ltb c.start r.end (omega (arith, own, ends, len, text)) in
          let d : nat_le c.end r.start ≡ true = le-leb c.end r.start ends in
          record {
            ahead = ap (λ x. x && nat_le c.end r.start) a ∙ d
                ∙ sym (before-true e.parent e.end z b);
            apart = ap (λ x. x && nat_lt r.start c.end) a ∙ le-ltb r.start c.end ends;
          }
      | inr b ↦
          let starts : r.end ≤ c.start =
          omega (
            arith,
            offset-lens t (place e),
            offset-lens t z,
            len,
            behind-element (Some t) q k w at,
            reach (Some t) q (suc k) (place e) b,
          ) in
          let a : nat_lt c.start r.end ≡ false = le-ltb c.start r.end starts in
          record {
            ahead = ap (λ x. x && nat_le c.end r.start) a
                ∙ sym (before-false e.parent e.end z (not-near q k e b order));
            apart = ap (λ x. x && nat_lt r.start c.end) a;
          }
    ]

all-lie : (t : Term) (es : List Edit) (q : Path) (k : ℕ) (w : Term) → EndInTurn es
    → AllByRecursion (λ e. IsUntouchedBy e (q ++ k ∷ [])) es
    → subterm t (q ++ k ∷ []) ≡ Some w → 0 < term_len w
    → AllByRecursion (λ e. Lies t e (q ++ k ∷ [])) es
all-lie t [] q k w turn out at text = tt
all-lie t (e ∷ es) q k w turn out at text =
    (lies t e q k w turn.0 out.0 at text, all-lie t es q k w turn.2 out.1 at text)

same-ahead : (t : Term) (es : List Edit) (z : Path) → AllByRecursion (λ e. Lies t e z) es
    → filter (is_ahead (range t z)) (changes_of t es) ≡ changes_of t (edits_before z es)
same-ahead t [] z h = refl
same-ahead t (e ∷ es) z h =
    let rest = filter (is_ahead (range t z)) (changes_of t es) in
    ap (λ b. cond b (change_of t e ∷ rest) rest) h.0.ahead
    ∙ ap (λ cs. cond (lies_before e.parent e.end z) (change_of t e ∷ cs) cs)
    (same-ahead t es z h.1)
    ∙ inside (lies_before e.parent e.end z) (edits_before z es)
  where
    inside : (b : Bool) (fs : List Edit)
        → cond b (change_of t e ∷ changes_of t fs) (changes_of t fs)
        ≡ changes_of t (cond b (e ∷ fs) fs)
    inside true fs = refl
    inside false fs = refl

none-overlaps : (t : Term) (es : List Edit) (z : Path) → AllByRecursion (λ e. Lies t e z) es
    → list_any (overlaps (range t z)) (changes_of t es) ≡ false
none-overlaps t [] z h = refl
none-overlaps t (e ∷ es) z h =
    ap (λ b. b || list_any (overlaps (range t z)) (changes_of t es)) h.0.apart
    ∙ none-overlaps t es z h.1

pub within : (r : Span) → r.end ≤ byte_limit → within_limit r ≡ Some r
within r h = ap (λ b. if b then Some r else None) (le-leb r.end byte_limit h)

-- what the changes say of an element that lies as all its edits leave it
by-changes : (root : NodeTerm) (es : List Edit) (z : Path) (w : Term)
    → AllByRecursion (λ e. Lies (Node root) e z) es → IsMoved root es z
    → subterm (edited (Node root) es) (moved_by es z) ≡ Some w → Fits (edited (Node root) es)
    → moved_through (changes_of (Node root) es) (range (Node root) z)
    ≡ Some (range (edited (Node root) es) (moved_by es z))
by-changes root es z w lie moved at fits =
    let t : Term = Node root in
    let u = edited t es in
    let r = range t z in
    let new = range u (moved_by es z) in
    let cs = changes_of t es in
    let to = λ (ds : List Change). within_limit (shifted (old_bytes ds) (new_bytes ds) r) in
    let short : new.end ≤ byte_limit =
    omega (arith, range-within u (moved_by es z) w at, Fits-len u fits) in
    ap (λ b. if b then None else to (filter (is_ahead r) cs)) (none-overlaps t es z lie)
    ∙ ap to (same-ahead t es z lie) ∙ ap within_limit (sym moved) ∙ within new short

pub changes-move : (root : NodeTerm) (es : List Edit) (z : Path) (w : Term) → AreInOrder root es
    → AllByRecursion (λ e. IsUntouchedBy e z) es → subterm (Node root) z ≡ Some w
    → 0 < term_len w → Fits (edited (Node root) es)
    → moved_through (changes_of (Node root) es) (range (Node root) z)
    ≡ Some (range (edited (Node root) es) (moved_by es z))
changes-move root [] z w h out at text fits =
    by-changes root [] z w tt (range-moved root [] z w h out at) at fits
changes-move root (e ∷ es) [] w h out at text fits = absurd out.0
changes-move root (e ∷ es) (i ∷ z) w h out at text fits =
    let r = split-last i z in
    let untouched = subst (λ p. AllByRecursion (λ d. IsUntouchedBy d p) (e ∷ es)) r.1.1 out in
    let there : subterm (Node root) (r.0 ++ r.1.0 ∷ []) ≡ Some w =
    ap (subterm (Node root)) (sym r.1.1) ∙ at in
    by-changes root (e ∷ es) (i ∷ z) w
    (subst (λ p. AllByRecursion (λ d. Lies (Node root) d p) (e ∷ es)) (sym r.1.1)
    (all-lie (Node root) (e ∷ es) r.0 r.1.0 w h.in_turn untouched there text))
    (range-moved root (e ∷ es) (i ∷ z) w h out at)
    (elements-kept (Node root) (e ∷ es) (i ∷ z) w h.in_turn out at) fits

-- ---- all changes together

pub follows : (t : Term) (es : List Edit) (at : ℕ) → EndInTurn es
    → AllByRecursion (λ e. at ≤ offset t (place e)) es → Follow at (changes_of t es)
follows t [] at turn h = tt
follows t (e ∷ es) at turn h =
    (h.0, (range-order t e turn.0, follows t es (offset t (end_place e)) turn.2 (each es turn.1)))
  where
    each : (ds : List Edit) → AllByRecursion (λ f. ends_before e f ≡ true) ds
        → AllByRecursion (λ f. offset t (end_place e) ≤ offset t (place f)) ds
    each [] a = tt
    each (d ∷ ds) a = (
      omega (
        arith,
        offset-lens t (end_place e),
        offset-lens t (place d),
        reach (Some t) e.parent e.end (place d) (true-before e.parent e.end (place d) a.0),
      ),
      each ds a.1,
    )

pub follow-start : (t : Term) (es : List Edit) → EndInTurn es → Follow 0 (changes_of t es)
follow-start t es turn = follows t es 0 turn (each es)
  where
    each : (ds : List Edit) → AllByRecursion (λ e. 0 ≤ offset t (place e)) ds
    each [] = tt
    each (d ∷ ds) = (omega arith, each ds)

pub last-within : (t : Term) (es : List Edit) (at : ℕ) → at ≤ term_len t
    → last_end at (changes_of t es) ≤ term_len t
last-within t [] at h = h
last-within t (e ∷ es) at h =
    last-within t es (offset t (end_place e)) (omega (
      arith,
      offset-lens t (end_place e),
      offset_of-within (Some t) (end_place e),
    ))

pub old-within : (cs : List Change) (at : ℕ) → Follow at cs → old_bytes cs + at ≤ last_end at cs
old-within [] at h = omega arith
old-within (c ∷ cs) at h = omega (arith, h.0, h.1.0, old-within cs c.range.end h.1.1)

-- the length of the new text
pub total : (root : NodeTerm) (es : List Edit) → AllByRecursion (IsOf root) es → EndInTurn es
    → term_len (edited (Node root) es) + old_bytes (changes_of (Node root) es)
    ≡ term_len (Node root) + new_bytes (changes_of (Node root) es)
total root [] of turn = refl
total root (e ∷ es) of turn =
    let t : Term = Node root in
    let u = edited t es in
    let starts = all-before e e.start es turn.0 turn.1 in
    let ends = all-before e e.end es (omega arith) turn.1 in
    let from = stays-all root es e.parent e.start starts turn.2 of.1 in
    let to = stays-all root es e.parent e.end ends turn.2 of.1 in
    let here = to.node (place-in root e of.0) in
    let once : term_len (edited_once u e) + lens_before (end_place e) (leaves u)
    ≡ term_len u + sum_of_lens e.new + lens_before (place e) (leaves u) =
    grown u e.parent e.start e.end e.new here.node here.stands turn.0 in
    omega (
      arith,
      once,
      from.lens,
      to.lens,
      offset-lens t (place e),
      offset-lens t (end_place e),
      range-order t e turn.0,
      total root es of.1 turn.2,
    )
