-- What an edit does not touch: it stands in the edited term, and where.
use Rattle.std.proofs.Common.{◌≡◌, ◌≢◌, ℕ, zero, suc, ◌+◌, ◌-◌, ◌<◌, ◌≤◌, true, false, List}
use Rattle.std.proofs.Common.{[], ◌∷◌, ◌++◌, length, take, drop, inl, inr, refl, sym, ◌∙◌, ap}
use Rattle.std.proofs.Common.{arith, subst, Some, None, Option, length-append, append_assoc}
use Rattle.std.specs.Prelude.{◌⊎◌, nat_lt, nat_eq, slice_get, if◌then◌else◌}
use Rattle.std.proofs.lemmas.Bool.{lt-ltb, le-ltb, ne_eqb}
use Rattle.std.proofs.lemmas.Bool.Decides.{Decides-eqb}
use Rattle.rowan_green.specs.declared.fault.Fault.{Fault}
use Rattle.rowan_green.specs.declared.utility_types.NodeOrToken.TheVariants.{Node, Token}
use Rattle.rowan_green.specs.Edits.{spliced}
use Rattle.rowan_terms.specs.Path.{Path, subterm, subterm_of, term_children, with_child, put_of}
use Rattle.rowan_terms.specs.Path.{put}
use Rattle.rowan_green.specs.Term.{Term, node_children}
use Rattle.rowan_terms.proofs.PutLemmas.{get-set, get-set_other, term_children-with_child}
use Rattle.rowan_terms.proofs.PutLemmas.{with_child-itself, child-of}
use Rattle.rowan_green.proofs.Terms.{terms-forest}
use Rattle.rowan_changes.specs.Edit.{Edit, with_spliced, put_spliced, edited_once, edited, place}
use Rattle.rowan_changes.specs.Edit.{ends_before}
use Rattle.rowan_changes.specs.Limits.{PassesLimitAt}
use Rattle.rowan_changes.specs.Plan.{EndInTurn}
use Rattle.rowan_changes.specs.Moved.{moved_index, moved_path, IsUntouched}
use Rattle.std.specs.List.{AllByRecursion}
use Rattle.rowan_changes.proofs.Places.{Before, true-before, before-trans}

-- ---- in a list

get-take : {A : Type 0} (xs ys : List A) (s k : ℕ) (x : A) → slice_get xs k ≡ Some x → k < s
    → slice_get (take s xs ++ ys) k ≡ Some x
get-take xs ys zero k x h less = absurd (omega arith)
get-take [] ys (suc s) k x h less = absurd cc
get-take (y ∷ xs) ys (suc s) zero x h less = h
get-take (y ∷ xs) ys (suc s) (suc k) x h less = get-take xs ys s k x h (omega arith)

pub get-behind : {A : Type 0} (xs ys : List A) (k : ℕ)
    → slice_get (xs ++ ys) (length xs + k) ≡ slice_get ys k
get-behind [] ys k = let e : 0 + k ≡ k = omega arith in ap (λ n. slice_get ys n) e
get-behind (x ∷ xs) ys k =
    let e : suc (length xs) + k ≡ suc (length xs + k) = omega arith in
    ap (λ n. slice_get (x ∷ (xs ++ ys)) n) e ∙ get-behind xs ys k

get-drop : {A : Type 0} (xs : List A) (e k : ℕ)
    → slice_get (drop e xs) k ≡ slice_get xs (e + k)
get-drop xs zero k = let e : k ≡ 0 + k = omega arith in ap (λ n. slice_get xs n) e
get-drop [] (suc e) k = refl
get-drop (x ∷ xs) (suc e) k =
    let n : suc (e + k) ≡ suc e + k = omega arith in
    get-drop xs e k ∙ ap (λ m. slice_get (x ∷ xs) m) n

pub length-took : {A : Type 0} (n : ℕ) (xs : List A) → n ≤ length xs → length (take n xs) ≡ n
length-took zero xs h = refl
length-took (suc n) [] h = absurd (omega arith)
length-took (suc n) (x ∷ xs) h = ap suc (length-took n xs (omega arith))

pub get-past : {A : Type 0} (xs : List A) (k : ℕ) (x : A) → slice_get xs k ≡ Some x
    → k < length xs
get-past [] k x h = absurd cc
get-past (y ∷ ys) zero x h = omega arith
get-past (y ∷ ys) (suc k) x h = omega (arith, get-past ys k x h)

-- what stands outside of a splice stands there afterwards, behind it as far on as the list grows
pub get-spliced : (ts : List Term) (start end k : ℕ) (new : List Term) (w : Term) → start ≤ end
    → (k < start) ⊎ (end ≤ k) → slice_get ts k ≡ Some w
    → slice_get (spliced ts start end new) (moved_index start end (length new) k) ≡ Some w
get-spliced ts start end k new w order out h =
    let all = spliced ts start end new in elim out [
      | inl less ↦
          let near : nat_lt k end ≡ true = lt-ltb k end (omega (arith, less, order)) in
          ap (λ b. slice_get all (if b then k else k - end + start + length new)) near
          ∙ ap (λ us. slice_get us k) (append_assoc (take start ts) new (drop end ts))
          ∙ get-take ts (new ++ drop end ts) start k w h less
      | inr more ↦
          let far : nat_lt k end ≡ false = le-ltb k end more in
          let first = take start ts ++ new in
          let front : length first ≡ start + length new =
          omega (
            arith,
            length-append (take start ts) new,
            length-took start ts (omega (arith, get-past ts k w h, more, order)),
          ) in
          let at : k - end + start + length new ≡ length first + (k - end) = omega arith in
          let back : end + (k - end) ≡ k = omega (arith, more) in
          ap (λ b. slice_get all (if b then k else k - end + start + length new)) far
          ∙ ap (λ n. slice_get all n) at ∙ get-behind first (drop end ts) (k - end)
          ∙ get-drop ts end (k - end) ∙ ap (λ n. slice_get ts n) back ∙ h
    ]

-- ---- in a term

-- an edit at a path
abbrev pub edit_at : Path → ℕ → ℕ → List Term → Edit
edit_at p start end new = record { parent = p; start = start; end = end; new = new }

same-spliced : (u : Term) (p q : Path) (start end : ℕ) (new : List Term)
    → with_spliced u (edit_at p start end new) ≡ with_spliced u (edit_at q start end new)
same-spliced (Node n) p q start end new = refl
same-spliced (Token t) p q start end new = refl

-- an edit below a child is one in the child
pub edited-below : (t : Term) (i : ℕ) (p : Path) (start end : ℕ) (new : List Term) (c : Term)
    → slice_get (term_children t) i ≡ Some c
    → edited_once t (edit_at (i ∷ p) start end new)
    ≡ with_child t i (edited_once c (edit_at p start end new))
edited-below t i p start end new c h = at (subterm c p) refl
  where
    at : (o : Option Term) → subterm c p ≡ o
        → edited_once t (edit_at (i ∷ p) start end new)
        ≡ with_child t i (edited_once c (edit_at p start end new))
    at None e =
        ap (put_spliced t (edit_at (i ∷ p) start end new)) (ap (λ o. subterm_of o p) h ∙ e)
        ∙ sym (ap (λ o. with_child t i (put_spliced c (edit_at p start end new) o)) e
        ∙ with_child-itself t i c h)
    at (Some u) e =
        let x = with_spliced u (edit_at (i ∷ p) start end new) in
        ap (put_spliced t (edit_at (i ∷ p) start end new)) (ap (λ o. subterm_of o p) h ∙ e)
        ∙ ap (λ o. with_child t i (put_of o p x)) h
        ∙ ap (λ y. with_child t i (put c p y)) (same-spliced u (i ∷ p) p start end new)
        ∙ sym (ap (λ o. with_child t i (put_spliced c (edit_at p start end new) o)) e)

-- other children stay
other-child : (t : Term) (i k : ℕ) (u : Term) (z : Path) → i ≢ k
    → subterm (with_child t i u) (k ∷ z) ≡ subterm t (k ∷ z)
other-child t i k u z n =
    ap (λ ts. subterm_of (slice_get ts k) z) (term_children-with_child t i u)
    ∙ ap (λ o. subterm_of o z) (get-set_other (term_children t) i k u n)

pub new-child : (t : Term) (i : ℕ) (c u : Term) (z : Path) → slice_get (term_children t) i ≡ Some c
    → subterm (with_child t i u) (i ∷ z) ≡ subterm u z
new-child t i c u z h =
    ap (λ ts. subterm_of (slice_get ts i) z) (term_children-with_child t i u)
    ∙ ap (λ o. subterm_of o z) (get-set (term_children t) i u c h)

other-edited : (t : Term) (i k : ℕ) (p : Path) (start end : ℕ) (new : List Term) (z : Path) → i ≢ k
    → subterm (edited_once t (edit_at (i ∷ p) start end new)) (k ∷ z) ≡ subterm t (k ∷ z)
other-edited t i k p start end new z n = at (subterm t (i ∷ p))
  where
    at : (o : Option Term)
        → subterm (put_spliced t (edit_at (i ∷ p) start end new) o) (k ∷ z) ≡ subterm t (k ∷ z)
    at None = refl
    at (Some u) =
        other-child t i k (put_of (slice_get (term_children t) i) p
        (with_spliced u (edit_at (i ∷ p) start end new))) z n

spliced-kept : (t : Term) (start end : ℕ) (new : List Term) (k : ℕ) (z : Path) (w : Term)
    → start ≤ end → (k < start) ⊎ (end ≤ k) → subterm t (k ∷ z) ≡ Some w
    → subterm (with_spliced t (edit_at [] start end new))
    (moved_index start end (length new) k ∷ z) ≡ Some w
spliced-kept (Token t) start end new k z w order out h = absurd cc
spliced-kept (Node n) start end new k z w order out h =
    let cs = node_children n in
    let at = moved_index start end (length new) k in
    let c = child-of (slice_get cs k) z w h in
    ap (λ ts. subterm_of (slice_get ts at) z) (terms-forest (spliced cs start end new))
    ∙ ap (λ o. subterm_of o z) (get-spliced cs start end k new c.0 order out c.1)
    ∙ ap (λ o. subterm_of o z) (sym c.1) ∙ h

-- an element that an edit does not touch stands in the edited term
pub subterm-kept : (t : Term) (p : Path) (start end : ℕ) (new : List Term) (z : Path) (w : Term)
    → start ≤ end → IsUntouched p start end z → subterm t z ≡ Some w
    → subterm (edited_once t (edit_at p start end new)) (moved_path p start end (length new) z)
    ≡ Some w
subterm-kept t p start end new [] w order out h = absurd out
subterm-kept t [] start end new (k ∷ z) w order out h =
    spliced-kept t start end new k z w order out h
subterm-kept t (i ∷ p) start end new (k ∷ z) w order out h = elim out [
  | inl other ↦
      let e = edit_at (i ∷ p) start end new in
      let no : nat_eq i k ≡ false = ne_eqb i k other in
      ap (λ b. subterm (edited_once t e)
      (if b then k ∷ moved_path p start end (length new) z else k ∷ z)) no
      ∙ other-edited t i k p start end new z other ∙ h
  | inr both ↦
      let yes : nat_eq i k ≡ true = (Decides-eqb i k).1 both.0 in
      let y = moved_path p start end (length new) z in
      let at : subterm t (i ∷ z) ≡ Some w = ap (λ j. subterm t (j ∷ z)) both.0 ∙ h in
      let c = child-of (slice_get (term_children t) i) z w at in
      let inner : subterm c.0 z ≡ Some w = ap (λ o. subterm_of o z) (sym c.1) ∙ at in
      let below = edited_once c.0 (edit_at p start end new) in
      ap (λ b. subterm (edited_once t (edit_at (i ∷ p) start end new))
      (if b then k ∷ y else k ∷ z)) yes
      ∙ ap (λ j. subterm (edited_once t (edit_at (i ∷ p) start end new)) (j ∷ y)) (sym both.0)
      ∙ ap (λ x. subterm x (i ∷ y)) (edited-below t i p start end new c.0 c.1)
      ∙ new-child t i c.0 below y c.1
      ∙ subterm-kept c.0 p start end new z w order both.1 inner
]

-- ---- behind edits

pub before-untouched : (p : Path) (start end : ℕ) (z : Path) → Before p end z
    → IsUntouched p start end z
before-untouched p start end [] h = absurd h
before-untouched [] start end (k ∷ z) h = inr h
before-untouched (i ∷ p) start end (k ∷ z) h = elim h [
  | inl less ↦ inl (λ e. omega (arith, less, e))
  | inr both ↦ inr (both.0, before-untouched p start end z both.1)
]

-- what ends before an edit ends before all that stands behind the edit once it is made
pub moved-before : (q : Path) (n : ℕ) (p : Path) (start end len : ℕ) (z : Path)
    → Before q n (p ++ start ∷ []) → start ≤ end → Before p end z
    → Before q n (moved_path p start end len z)
moved-before q n p start end len [] h order g = absurd g
moved-before [] n [] start end len (k ∷ z) h order g =
    let far : nat_lt k end ≡ false = le-ltb k end g in
    subst (λ b. n ≤ (if b then k else k - end + start + len)) (sym far) (omega (arith, h))
moved-before (i ∷ q) n [] start end len (k ∷ z) h order g =
    let far : nat_lt k end ≡ false = le-ltb k end g in elim h [
      | inl less ↦
          inl (subst (λ b. i < (if b then k else k - end + start + len)) (sym far)
          (omega (arith, less)))
      | inr both ↦ absurd both.1
    ]
moved-before [] n (j ∷ p) start end len (k ∷ z) h order g =
    let y = moved_path p start end len z in elim g [
      | inl less ↦
          subst (λ b. Before [] n (if b then k ∷ y else k ∷ z))
          (sym (ne_eqb j k (λ e. omega (arith, less, e)))) (omega (arith, h, less))
      | inr both ↦
          subst (λ b. Before [] n (if b then k ∷ y else k ∷ z)) (sym ((Decides-eqb j k).1 both.0))
          (omega (arith, h, both.0))
    ]
moved-before (i ∷ q) n (j ∷ p) start end len (k ∷ z) h order g =
    let y = moved_path p start end len z in elim g [
      | inl less ↦
          subst (λ b. Before (i ∷ q) n (if b then k ∷ y else k ∷ z))
          (sym (ne_eqb j k (λ e. omega (arith, less, e))))
          (before-trans (i ∷ q) n (j ∷ p) start end (k ∷ z) h order (inl less))
      | inr both ↦
          subst (λ b. Before (i ∷ q) n (if b then k ∷ y else k ∷ z))
          (sym ((Decides-eqb j k).1 both.0)) (elim h [
            | inl less ↦ inl (omega (arith, less, both.0))
            | inr same ↦ inr
                (same.0 ∙ both.0, moved-before q n p start end len z same.1 order both.1)
          ])
    ]

-- ---- a node that passes a limit

-- once all edits before it are made, the node stands somewhere, and what ended before it and before
-- all of them ends before it still
pub record StillPasses (t : Term) (es : List Edit) (z : Path) (fault : Fault) : Type 0 where
  pub path : Path
  pub passes : PassesLimitAt (edited t es) path fault
  pub behind : (q : Path) (n : ℕ) → Before q n z
      → AllByRecursion (λ e. Before q n (place e)) es → Before q n path

pub still-passes : (t : Term) (es : List Edit) (z : Path) (fault : Fault) → EndInTurn es
    → AllByRecursion (λ e. Before e.parent e.end z) es → PassesLimitAt t z fault
    → StillPasses t es z fault
still-passes t [] z fault turn before h =
    record { path = z; passes = h; behind = λ q n b u. b }
still-passes t (e ∷ es) z fault turn before h =
    let r = still-passes t es z fault turn.2 before.1 h in
    let after : Before e.parent e.end r.path =
    r.behind e.parent e.end before.0 (all-before e es turn.1) in
    let len = length e.new in
    record {
      path = moved_path e.parent e.start e.end len r.path;
      passes = record {
        node = r.passes.node;
        stands = subterm-kept (edited t es) e.parent e.start e.end e.new r.path (Node r.passes.node)
            turn.0 (before-untouched e.parent e.start e.end r.path after) r.passes.stands;
        passes = r.passes.passes;
      };
      behind = λ q n b u. moved-before q n e.parent e.start e.end len r.path u.0 turn.0 after;
    }
  where
    all-before : (d : Edit) (fs : List Edit) → AllByRecursion (λ f. ends_before d f ≡ true) fs
        → AllByRecursion (λ f. Before d.parent d.end (place f)) fs
    all-before d [] a = tt
    all-before d (f ∷ fs) a = (true-before d.parent d.end (place f) a.0, all-before d fs a.1)
