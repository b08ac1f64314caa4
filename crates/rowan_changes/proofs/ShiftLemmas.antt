-- How many bytes stand before a place, and how one edit changes that.
use Rattle.std.proofs.Common.{◌≡◌, ◌≢◌, ℕ, zero, suc, ◌+◌, ◌-◌, ◌<◌, ◌≤◌, true, false, List}
use Rattle.std.proofs.Common.{[], ◌∷◌, ◌++◌, length, take, drop, set, Option, Some, None, inl, inr}
use Rattle.std.proofs.Common.{sym, ◌∙◌, ap, arith, length-append, append_assoc}
use Rattle.std.specs.Prelude.{nat_lt, nat_eq, slice_get, if◌then◌else◌}
use Rattle.std.proofs.lemmas.Bool.{le-ltb, ne_eqb}
use Rattle.std.proofs.lemmas.Bool.Decides.{Decides-eqb}
use Rattle.rowan_green.specs.declared.utility_types.NodeOrToken.TheVariants.{Node, Token}
use Rattle.std.proofs.lemmas.List.{take-set-le}
use Rattle.rowan_green.specs.Edits.{spliced, replaced}
use Rattle.rowan_terms.specs.Path.{Path, subterm, subterm_of, len_of, leaves, node_leaves}
use Rattle.rowan_terms.specs.Path.{with_child}
use Rattle.rowan_green.specs.Search.{child_start}
use Rattle.rowan_green.specs.Term.{NodeTerm, node, Term, terms, node_of, node_children, term_len}
use Rattle.rowan_green.specs.Term.{sum_of_lens, joined_text}
use Rattle.rowan_terms.proofs.OffsetLemmas.{lens_before, offset_of, lens_before-node}
use Rattle.rowan_terms.proofs.OffsetLemmas.{offset_of-within}
use Rattle.rowan_terms.proofs.PutLemmas.{child-of, get-set, get-set_other, term_children-with_child}
use Rattle.rowan_green.proofs.Terms.{length-joined_text, sum_of_lens-append, terms-forest}
use Rattle.rowan_changes.specs.Edit.{edited_once}
use Rattle.rowan_changes.specs.Moved.{moved_index, moved_path}
use Rattle.rowan_changes.proofs.Places.{Before}
use Rattle.rowan_changes.proofs.TextLaw.{top-offset, took, splices}
use Rattle.rowan_changes.proofs.Untouched.{edit_at, edited-below, get-spliced, get-past, length-took}

-- ---- children

pub starts-less : (ts : List Term) (n k : ℕ) → n ≤ k → child_start ts n ≤ child_start ts k
starts-less ts zero k h = omega arith
starts-less [] (suc n) k h = omega arith
starts-less (t ∷ ts) (suc n) zero h = absurd (omega arith)
starts-less (t ∷ ts) (suc n) (suc k) h = omega (arith, starts-less ts n k (omega arith))

start-next : (ts : List Term) (i : ℕ)
    → child_start ts (suc i) ≡ child_start ts i + len_of (slice_get ts i)
start-next [] zero = omega arith
start-next [] (suc i) = omega arith
start-next (t ∷ ts) zero = omega arith
start-next (t ∷ ts) (suc i) = omega (arith, start-next ts i)

pub start-within : (ts : List Term) (k : ℕ) → child_start ts k ≤ sum_of_lens ts
start-within ts zero = omega arith
start-within [] (suc k) = omega arith
start-within (t ∷ ts) (suc k) = omega (arith, start-within ts k)

pub sum-next : (ts : List Term) (i : ℕ) (t : Term) → slice_get ts i ≡ Some t
    → child_start ts (i + 1) ≡ child_start ts i + term_len t
sum-next ts i t h =
    let next : i + 1 ≡ suc i = omega arith in
    ap (child_start ts) next ∙ start-next ts i ∙ ap (λ o. child_start ts i + len_of o) h

-- ---- places in order

-- a place lies no further from the start than one behind it
pub reach : (o : Option Term) (q : Path) (n : ℕ) (z : Path) → Before q n z
    → offset_of o (q ++ n ∷ []) ≤ offset_of o z
reach o q n [] h = absurd h
reach None q n (k ∷ z) h = omega arith
reach (Some (Token t)) [] n (k ∷ z) h = omega arith
reach (Some (Token t)) (i ∷ q) n (k ∷ z) h = omega arith
reach (Some (Node m)) [] n (k ∷ z) h =
    omega (
      arith,
      lens_before-node m n [],
      lens_before-node m k z,
      top-offset (slice_get (node_children m) n),
      starts-less (node_children m) n k h,
    )
reach (Some (Node m)) (i ∷ q) n (k ∷ z) h =
    let cs = node_children m in elim h [
      | inl less ↦
          omega (
            arith,
            lens_before-node m i (q ++ n ∷ []),
            lens_before-node m k z,
            offset_of-within (slice_get cs i) (q ++ n ∷ []),
            start-next cs i,
            starts-less cs (suc i) k less,
          )
      | inr both ↦
          omega (
            arith,
            lens_before-node m i (q ++ n ∷ []),
            lens_before-node m k z,
            ap (child_start cs) both.0,
            ap (λ j. offset_of (slice_get cs j) z) both.0,
            reach (slice_get cs i) q n z both.1,
          )
    ]

-- an element's text reaches to the place behind it
pub behind-element : (o : Option Term) (q : Path) (k : ℕ) (u : Term)
    → subterm_of o (q ++ k ∷ []) ≡ Some u
    → offset_of o (q ++ suc k ∷ []) ≡ offset_of o (q ++ k ∷ []) + term_len u
behind-element None q k u h = absurd cc
behind-element (Some (Token t)) [] k u h = absurd cc
behind-element (Some (Token t)) (i ∷ q) k u h = absurd cc
behind-element (Some (Node m)) [] k u h =
    let cs = node_children m in
    let c = child-of (slice_get cs k) [] u h in
    let top : subterm_of (Some c.0) [] ≡ Some u = ap (λ o. subterm_of o []) (sym c.1) ∙ h in
    let same : c.0 ≡ u = cc in
    omega (
      arith,
      lens_before-node m (suc k) [],
      lens_before-node m k [],
      top-offset (slice_get cs (suc k)),
      top-offset (slice_get cs k),
      start-next cs k,
      ap len_of c.1,
      ap term_len same,
    )
behind-element (Some (Node m)) (i ∷ q) k u h =
    omega (
      arith,
      lens_before-node m i (q ++ suc k ∷ []),
      lens_before-node m i (q ++ k ∷ []),
      behind-element (slice_get (node_children m) i) q k u h,
    )

-- ---- one edit

-- the length changes as the edit says
pub grown : (t : Term) (p : Path) (s e : ℕ) (new : List Term) (n : NodeTerm)
    → subterm t p ≡ Some (Node n) → s ≤ e
    → term_len (edited_once t (edit_at p s e new)) + lens_before (p ++ e ∷ []) (leaves t)
    ≡ term_len t + sum_of_lens new + lens_before (p ++ s ∷ []) (leaves t)
grown t p s e new n h order =
    let r = splices t p s e new n h order in
    omega (
      arith,
      ap length r.old,
      ap length r.made,
      length-append r.before (r.middle ++ r.behind),
      length-append r.middle r.behind,
      length-append r.before (joined_text new ++ r.behind),
      length-append (joined_text new) r.behind,
      length-joined_text new,
      r.start,
      r.end,
    )

-- where a child starts, once another one is replaced
start-behind : (ts : List Term) (i j : ℕ) (x c : Term) → slice_get ts i ≡ Some c → i < j
    → child_start (set ts i x) j + term_len c ≡ child_start ts j + term_len x
start-behind [] i j x c e h = absurd cc
start-behind (t ∷ ts) i zero x c e h = absurd (omega arith)
start-behind (t ∷ ts) zero (suc j) x c e h =
    let s : t ≡ c = cc in omega (arith, ap term_len s)
start-behind (t ∷ ts) (suc i) (suc j) x c e h =
    omega (arith, start-behind ts i j x c e (omega arith))

front-sum : (xs ys : List Term) (j : ℕ)
    → child_start (xs ++ ys) (length xs + j) ≡ sum_of_lens xs + child_start ys j
front-sum [] ys j = let e : 0 + j ≡ j = omega arith in
    ap (child_start ys) e ∙ omega arith
front-sum (x ∷ xs) ys j =
    let e : suc (length xs) + j ≡ suc (length xs + j) = omega arith in
    ap (child_start (x ∷ (xs ++ ys))) e ∙ omega (arith, front-sum xs ys j)

-- where a child behind a splice starts
start-spliced : (cs : List Term) (s e k : ℕ) (new : List Term) → s ≤ e → e ≤ k → k < length cs
    → child_start (spliced cs s e new) (k - e + s + length new) + child_start cs e
    ≡ child_start cs k + sum_of_lens new + child_start cs s
start-spliced cs s e k new order far within =
    let front = take s cs ++ new in
    let len : length front ≡ s + length new =
    omega (arith, length-append (take s cs) new, length-took s cs (omega arith)) in
    let at : k - e + s + length new ≡ length front + (k - e) = omega arith in
    omega (
      arith,
      ap (child_start (spliced cs s e new)) at,
      ap (λ us. child_start us (length front + (k - e)))
          (sym (append_assoc (take s cs) new (drop e cs))),
      front-sum front (drop e cs) (k - e),
      sum_of_lens-append (take s cs) new,
      ap sum_of_lens (took cs e k far),
      sum_of_lens-append (take e cs) (take (k - e) (drop e cs)),
    )

-- what lies behind an edit comes as much further on as the edit makes the text longer
pub shifts : (t : Term) (p : Path) (s e : ℕ) (new : List Term) (n : NodeTerm) (z : Path) (w : Term)
    → subterm t p ≡ Some (Node n) → s ≤ e → Before p e z → subterm t z ≡ Some w
    → lens_before (moved_path p s e (length new) z) (leaves (edited_once t (edit_at p s e new)))
    + lens_before (p ++ e ∷ []) (leaves t)
    ≡ lens_before z (leaves t) + sum_of_lens new + lens_before (p ++ s ∷ []) (leaves t)
shifts t p s e new n [] w h order b at = absurd b
shifts (Token t) [] s e new n (k ∷ z) w h order b at = absurd cc
shifts (Token t) (i ∷ p) s e new n (k ∷ z) w h order b at = absurd cc
shifts (Node (node x f)) [] s e new n (k ∷ z) w h order b at =
    let cs = terms f in
    let m = node_of x (spliced cs s e new) in
    let tf : node_children m ≡ spliced cs s e new = terms-forest (spliced cs s e new) in
    let c = child-of (slice_get cs k) z w at in
    let j = k - e + s + length new in
    let far : nat_lt k e ≡ false = le-ltb k e b in
    let path : moved_path [] s e (length new) (k ∷ z) ≡ j ∷ z =
    ap (λ y. (if y then k else j) ∷ z) far in
    let place : moved_index s e (length new) k ≡ j = ap (λ y. if y then k else j) far in
    let get : slice_get (node_children m) j ≡ slice_get cs k =
    ap (λ us. slice_get us j) tf ∙ ap (slice_get (spliced cs s e new)) (sym place)
    ∙ get-spliced cs s e k new c.0 order (inr b) c.1 ∙ sym c.1 in
    omega (
      arith,
      ap (λ y. lens_before y (node_leaves m)) path,
      lens_before-node m j z,
      ap (λ us. child_start us j) tf,
      ap (λ o. offset_of o z) get,
      lens_before-node (node x f) k z,
      lens_before-node (node x f) e [],
      lens_before-node (node x f) s [],
      top-offset (slice_get cs e),
      top-offset (slice_get cs s),
      start-spliced cs s e k new order b (get-past cs k c.0 c.1),
    )
shifts (Node (node x f)) (i ∷ p) s e new n (k ∷ z) w h order b at =
    let cs = terms f in
    let t : Term = Node (node x f) in
    let c = child-of (slice_get cs i) p (Node n) h in
    let inner : subterm c.0 p ≡ Some (Node n) = ap (λ o. subterm_of o p) (sym c.1) ∙ h in
    let v = edited_once c.0 (edit_at p s e new) in
    let m = node_of x (replaced cs i v) in
    let whole = edited_once t (edit_at (i ∷ p) s e new) in
    let made : whole ≡ with_child t i v = edited-below t i p s e new c.0 c.1 in
    let tc : node_children m ≡ set cs i v = term_children-with_child t i v in
    let y = moved_path p s e (length new) z in elim b [
      | inl less ↦
          let no : nat_eq i k ≡ false = ne_eqb i k (λ q. omega (arith, less, q)) in
          let other : i ≢ k = λ q. omega (arith, less, q) in
          let path : moved_path (i ∷ p) s e (length new) (k ∷ z) ≡ k ∷ z =
          ap (λ a. if a then k ∷ y else k ∷ z) no in
          let get : slice_get (node_children m) k ≡ slice_get cs k =
          ap (λ us. slice_get us k) tc ∙ get-set_other cs i k v other in
          omega (
            arith,
            ap (λ q. lens_before q (leaves whole)) path,
            ap (λ u. lens_before (k ∷ z) (leaves u)) made,
            lens_before-node m k z,
            ap (λ us. child_start us k) tc,
            start-behind cs i k v c.0 c.1 less,
            ap (λ o. offset_of o z) get,
            lens_before-node (node x f) k z,
            lens_before-node (node x f) i (p ++ e ∷ []),
            lens_before-node (node x f) i (p ++ s ∷ []),
            ap (λ o. offset_of o (p ++ e ∷ [])) c.1,
            ap (λ o. offset_of o (p ++ s ∷ [])) c.1,
            grown c.0 p s e new n inner order,
          )
      | inr both ↦
          let yes : nat_eq i k ≡ true = (Decides-eqb i k).1 both.0 in
          let there : subterm c.0 z ≡ Some w =
          ap (λ o. subterm_of o z) (sym c.1 ∙ ap (slice_get cs) both.0) ∙ at in
          let path : moved_path (i ∷ p) s e (length new) (k ∷ z) ≡ i ∷ y =
          ap (λ a. if a then k ∷ y else k ∷ z) yes ∙ ap (λ j. j ∷ y) (sym both.0) in
          let get : slice_get (node_children m) i ≡ Some v =
          ap (λ us. slice_get us i) tc ∙ get-set cs i v c.0 c.1 in
          omega (
            arith,
            ap (λ q. lens_before q (leaves whole)) path,
            ap (λ u. lens_before (i ∷ y) (leaves u)) made,
            lens_before-node m i y,
            ap (λ us. child_start us i) tc,
            ap sum_of_lens (take-set-le i cs i v (omega arith)),
            ap (λ o. offset_of o y) get,
            ap (λ j. lens_before (j ∷ z) (node_leaves (node x f))) both.0,
            lens_before-node (node x f) i z,
            ap (λ o. offset_of o z) c.1,
            lens_before-node (node x f) i (p ++ e ∷ []),
            lens_before-node (node x f) i (p ++ s ∷ []),
            ap (λ o. offset_of o (p ++ e ∷ [])) c.1,
            ap (λ o. offset_of o (p ++ s ∷ [])) c.1,
            shifts c.0 p s e new n z w inner order both.1 there,
          )
    ]
