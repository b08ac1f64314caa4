-- Replacements and ranges: the lengths and the text of the new term, and where ranges at separate
-- paths go.
use Rattle.std.proofs.Common.{◌≡◌, ℕ, zero, suc, ◌+◌, ◌-◌, ◌<◌, ◌≤◌, Bool, true, false}
use Rattle.std.proofs.Common.{if◌then◌else◌, List, [], ◌∷◌, set, Option, Some, None, inl, inr, refl}
use Rattle.std.proofs.Common.{sym, ◌∙◌, ap, subst, arith, true≢false}
use Rattle.std.specs.Prelude.{slice_get}
use Rattle.std.proofs.lemmas.Bool.{cases_order}
use Rattle.std.proofs.lemmas.List.{take-set-le}
use Rattle.rowan_green.specs.declared.utility_types.NodeOrToken.TheVariants.{Node, Token}
use Rattle.rowan_green.specs.Edits.{replaced}
use Rattle.rowan_terms.specs.Path.{Path, subterm_of, subterm, stands_before, len_of, offset, range}
use Rattle.rowan_terms.specs.Path.{with_child, put_of, put, separate, shifted, moved, moved_range}
use Rattle.rowan_green.specs.Search.{child_start}
use Rattle.rowan_green.specs.Span.{Span, EndsBefore}
use Rattle.rowan_green.specs.Term.{NodeTerm, Term, node_of, node_kind, node_children, term_len}
use Rattle.rowan_green.specs.Term.{sum_of_lens}
use Rattle.rowan_terms.proofs.OffsetLemmas.{before_at_less, before_at_same, before_at_greater}
use Rattle.rowan_terms.proofs.OffsetLemmas.{offset_of, offset-lens, lens_before-node}
use Rattle.rowan_terms.proofs.OffsetLemmas.{offset_of-within}
use Rattle.rowan_terms.proofs.Paths.{offset-empty}
use Rattle.rowan_terms.proofs.PutLemmas.{child-of, replaced-set, get-set, get-set_other, sum-set}
use Rattle.rowan_terms.proofs.PutLemmas.{term_children-with_child, put-absent, subterm-apart}
use Rattle.rowan_terms.proofs.SeparateLemmas.{Part, part-separate}
use Rattle.rowan_green.proofs.Terms.{node_len-node_of, node_len-children}

-- ---- lengths

-- the length of a node with another child
len-with_child : (n : NodeTerm) (i : ℕ) (x : Term)
    → term_len (with_child (Node n) i x) ≡ sum_of_lens (set (node_children n) i x)
len-with_child n i x = node_len-node_of (node_kind n) (replaced (node_children n) i x)
    ∙ ap sum_of_lens (replaced-set (node_children n) i x)

put_of-len : (t : Option Term) (p : Path) (u w : Term) → subterm_of t p ≡ Some w
    → term_len (put_of t p u) + term_len w ≡ len_of t + term_len u
put_of-len None p u w h = absurd cc
put_of-len (Some t) [] u w h = let e : t ≡ w = cc in omega (arith, ap term_len e)
put_of-len (Some (Token t)) (i ∷ p) u w h = absurd cc
put_of-len (Some (Node n)) (i ∷ p) u w h =
    let s = slice_get (node_children n) i in
    let rest : term_len (put_of s p u) + term_len w ≡ len_of s + term_len u =
    put_of-len s p u w h in
    let c = child-of s p w h in
    omega (
      arith,
      rest,
      ap len_of c.1,
      len-with_child n i (put_of s p u),
      sum-set (node_children n) i (put_of s p u) c.0 c.1,
      node_len-children n,
    )

-- the length changes as that of the subterm does
pub put-len : (t : Term) (p : Path) (u w : Term) → subterm t p ≡ Some w
    → term_len (put t p u) + term_len w ≡ term_len t + term_len u
put-len t p u w h = put_of-len (Some t) p u w h

-- ---- offsets

-- where a child starts, once another one is replaced
child_start-before : (ts : List Term) (i j : ℕ) (x : Term) → j ≤ i
    → child_start (set ts i x) j ≡ child_start ts j
child_start-before ts i j x h = ap sum_of_lens (take-set-le j ts i x h)

child_start-behind : (ts : List Term) (i j : ℕ) (x c : Term) → slice_get ts i ≡ Some c → i < j
    → child_start (set ts i x) j + term_len c ≡ child_start ts j + term_len x
child_start-behind [] i j x c e h = absurd cc
child_start-behind (t ∷ ts) i zero x c e h = absurd (omega arith)
child_start-behind (t ∷ ts) zero (suc j) x c e h = let s : t ≡ c = cc in
    omega (arith, ap term_len s)
child_start-behind (t ∷ ts) (suc i) (suc j) x c e h =
    omega (arith, child_start-behind ts i j x c e (omega arith))

-- y is x, or x with the one length in place of the other
abbrev Shifts : Bool → ℕ → ℕ → ℕ → ℕ → Type 0
Shifts true old new x y = y ≡ x
Shifts false old new x y = y + old ≡ x + new

shifts-from : (a b : Bool) (old new d x y v w : ℕ) → a ≡ b → v ≡ d + x → w ≡ d + y
    → Shifts b old new x y → Shifts a old new v w
shifts-from true true old new d x y v w e p q h = omega arith
shifts-from true false old new d x y v w e p q h = absurd (true≢false e)
shifts-from false true old new d x y v w e p q h = absurd (true≢false (sym e))
shifts-from false false old new d x y v w e p q h = omega arith

offset_of-with_child : (n : NodeTerm) (i j : ℕ) (q : Path) (x : Term)
    → offset_of (Some (with_child (Node n) i x)) (j ∷ q) ≡ child_start (set (node_children n) i x) j
    + offset_of (slice_get (set (node_children n) i x) j) q
offset_of-with_child n i j q x =
    lens_before-node (node_of (node_kind n) (replaced (node_children n) i x)) j q
    ∙ ap (λ ts. child_start ts j + offset_of (slice_get ts j) q)
    (term_children-with_child (Node n) i x)

-- in a child behind the one that is replaced, in a child before it, and in the new child
offset-behind : (n : NodeTerm) (i j : ℕ) (q : Path) (x c : Term)
    → slice_get (node_children n) i ≡ Some c → i < j
    → offset_of (Some (with_child (Node n) i x)) (j ∷ q) + term_len c
    ≡ offset_of (Some (Node n)) (j ∷ q) + term_len x
offset-behind n i j q x c e l =
    let ts = node_children n in
    let stays = ap (λ o. offset_of o q) (get-set_other ts i j x (λ k. omega (arith, k, l))) in
    omega (
      arith,
      lens_before-node n j q,
      offset_of-with_child n i j q x,
      stays,
      child_start-behind ts i j x c e l,
    )

offset-before : (n : NodeTerm) (i j : ℕ) (q : Path) (x : Term) → j < i
    → offset_of (Some (with_child (Node n) i x)) (j ∷ q) ≡ offset_of (Some (Node n)) (j ∷ q)
offset-before n i j q x l =
    let ts = node_children n in
    let stays = ap (λ o. offset_of o q) (get-set_other ts i j x (λ k. omega (arith, k, l))) in
    omega (
      arith,
      lens_before-node n j q,
      offset_of-with_child n i j q x,
      stays,
      child_start-before ts i j x (omega (arith, l)),
    )

offset-in : (n : NodeTerm) (i : ℕ) (q : Path) (x c : Term) → slice_get (node_children n) i ≡ Some c
    → offset_of (Some (with_child (Node n) i x)) (i ∷ q) ≡ child_start (node_children n) i
    + offset_of (Some x) q
offset-in n i q x c e =
    let ts = node_children n in
    omega (
      arith,
      offset_of-with_child n i i q x,
      ap (λ o. offset_of o q) (get-set ts i x c e),
      child_start-before ts i i x (omega arith),
    )

offset_of-put : (t : Option Term) (p q : Path) (u w : Term) → subterm_of t p ≡ Some w → Part p q
    → Shifts (stands_before q p) (term_len w) (term_len u) (offset_of t q)
    (offset_of (Some (put_of t p u)) q)
offset_of-put None p q u w h r = absurd cc
offset_of-put (Some t) [] q u w h r = absurd r
offset_of-put (Some t) (i ∷ p) [] u w h r = absurd r
offset_of-put (Some (Token t)) (i ∷ p) (j ∷ q) u w h r = absurd cc
offset_of-put (Some (Node n)) (i ∷ p) (j ∷ q) u w h r =
    let s = slice_get (node_children n) i in
    let x = put_of s p u in
    let c = child-of s p w h in
    let Goes = λ (b : Bool) (m : ℕ).
    Shifts b (term_len w) (term_len u) (offset_of (Some (Node n)) (m ∷ q))
    (offset_of (Some (with_child (Node n) i x)) (m ∷ q)) in elim (cases_order i j) [
      | inl k ↦ elim r [
        | inl n' ↦ absurd (n' k)
        | inr d ↦
            subst (λ m. Goes (stands_before (m ∷ q) (i ∷ p)) m) k
            (shifts-from (stands_before (i ∷ q) (i ∷ p)) (stands_before q p) (term_len w)
            (term_len u) (child_start (node_children n) i) (offset_of s q)
            (offset_of (Some x) q) _ _
            (before_at_same i q p) (lens_before-node n i q) (offset-in n i q x c.0 c.1)
            (offset_of-put s p q u w h d.1))
      ]
      | inr (inl l) ↦
          subst (λ b. Goes b j) (sym (before_at_greater j i q p l))
          (omega (
            arith,
            put_of-len s p u w h,
            ap len_of c.1,
            offset-behind n i j q x c.0 c.1 l,
          ))
      | inr (inr g) ↦ subst (λ b. Goes b j) (sym (before_at_less j i q p g))
          (offset-before n i j q x g)
    ]

abbrev span_at : ℕ → ℕ → Span
span_at x n = record { start = x; end = x + n }

shifts-span : (b : Bool) (old new x y n : ℕ) → Shifts b old new x y
    → span_at y n ≡ (if b then span_at x n else shifted old new (span_at x n))
shifts-span true old new x y n h = ap (λ k. span_at k n) h
shifts-span false old new x y n h =
    let s : y ≡ x + new - old = omega arith in
    let e : y + n ≡ x + n + new - old = omega arith in λ i. record { start = s i; end = e i }

-- where the range at a separate path goes
pub range-apart : (t : Term) (p q : Path) (u w : Term) → subterm t p ≡ Some w → separate p q ≡ true
    → range (put t p u) q ≡ moved_range t p u q
range-apart t p q u w h r =
    let shift = offset_of-put (Some t) p q u w h (part-separate p q r) in
    let shifts : Shifts (stands_before q p) (term_len w) (term_len u) (offset t q)
    (offset (put t p u) q) =
    shifts-from (stands_before q p) (stands_before q p) (term_len w) (term_len u) 0
    (offset_of (Some t) q) (offset_of (Some (put t p u)) q) _ _ refl
    (omega (arith, offset-lens t q)) (omega (arith, offset-lens (put t p u) q)) shift in
    ap (λ o. span_at (offset (put t p u) q) (len_of o)) (subterm-apart t p q u r)
    ∙ shifts-span (stands_before q p) (term_len w) (term_len u) (offset t q) (offset (put t p u) q)
    (len_of (subterm t q)) shifts
    ∙ ap (λ o. moved p (len_of o) (term_len u) q (range t q)) (sym h)

offset_of-here : (t : Option Term) (p : Path) (u w : Term) → subterm_of t p ≡ Some w
    → offset_of (Some (put_of t p u)) p ≡ offset_of t p
offset_of-here None p u w h = absurd cc
offset_of-here (Some t) [] u w h =
    omega (arith, offset-lens u [], offset-empty u, offset-lens t [], offset-empty t)
offset_of-here (Some (Token t)) (i ∷ p) u w h = absurd cc
offset_of-here (Some (Node n)) (i ∷ p) u w h =
    let s = slice_get (node_children n) i in
    let c = child-of s p w h in
    omega (
      arith,
      offset-in n i p (put_of s p u) c.0 c.1,
      lens_before-node n i p,
      offset_of-here s p u w h,
    )

-- the text that was put starts where the old one did
pub offset-here : (t : Term) (p : Path) (u : Term) → offset (put t p u) p ≡ offset t p
offset-here t p u = at (subterm t p) refl
  where
    at : (o : Option Term) → subterm t p ≡ o → offset (put t p u) p ≡ offset t p
    at None e = ap (λ v. offset v p) (put-absent t p u e)
    at (Some w) e = omega (
      arith,
      offset-lens (put t p u) p,
      offset-lens t p,
      offset_of-here (Some t) p u w e,
    )

-- ---- the order of ranges

-- a child ends where a later one starts, or before
child-end : (ts : List Term) (i j : ℕ) → i < j
    → child_start ts i + len_of (slice_get ts i) ≤ child_start ts j
child-end ts i zero h = absurd (omega arith)
child-end [] zero (suc j) h = omega arith
child-end [] (suc i) (suc j) h = omega arith
child-end (t ∷ ts) zero (suc j) h = omega arith
child-end (t ∷ ts) (suc i) (suc j) h = omega (arith, child-end ts i j (omega arith))

ends-before : (t : Option Term) (p q : Path) → Part p q → stands_before p q ≡ true
    → offset_of t p + len_of (subterm_of t p) ≤ offset_of t q
ends-before None p q r b = omega arith
ends-before (Some t) [] q r b = absurd r
ends-before (Some t) (i ∷ p) [] r b = absurd r
ends-before (Some (Token t)) (i ∷ p) (j ∷ q) r b = omega arith
ends-before (Some (Node n)) (i ∷ p) (j ∷ q) r b =
    let cs = node_children n in
    let s = slice_get cs i in
    let here = lens_before-node n i p in
    let there = lens_before-node n j q in elim (cases_order i j) [
      | inr (inl l) ↦ omega (arith, here, there, offset_of-within s p, child-end cs i j l)
      | inr (inr g) ↦ absurd (true≢false (sym b ∙ before_at_greater i j p q g))
      | inl k ↦ elim r [
        | inl n' ↦ absurd (n' k)
        | inr d ↦ (
            let before : stands_before p q ≡ true =
            sym (before_at_same i p q) ∙ ap (λ m. stands_before (i ∷ p) (m ∷ q)) k ∙ b in
            let same : offset_of (Some (Node n)) (j ∷ q) ≡ offset_of (Some (Node n)) (i ∷ q) =
            ap (λ m. offset_of (Some (Node n)) (m ∷ q)) (sym k) in
            omega (arith, here, same, lens_before-node n i q, ends-before s p q d.1 before)
            )
      ]
    ]

-- of two separate paths, the range of the one that stands before the other ends where that starts,
-- or before
pub range-before : (t : Term) (p q : Path) → separate p q ≡ true → stands_before p q ≡ true
    → EndsBefore (range t p) (range t q)
range-before t p q r b = omega
    (arith, offset-lens t p, offset-lens t q, ends-before (Some t) p q (part-separate p q r) b)
