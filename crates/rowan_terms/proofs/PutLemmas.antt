-- Replacements in terms: what stands where after one, two of them, and the text.
use Rattle.std.proofs.Common.{◌≡◌, ◌≢◌, ℕ, zero, suc, ◌+◌, ◌≤◌, true, List, [], ◌∷◌, ◌++◌, length}
use Rattle.std.proofs.Common.{take, drop, set, Option, Some, None, inl, inr, refl, sym, ◌∙◌, ap}
use Rattle.std.proofs.Common.{arith, length-set, set-set}
use Rattle.std.specs.Prelude.{slice_get}
use Rattle.std.proofs.lemmas.Bool.{cases_lt}
use Rattle.std.proofs.lemmas.List.{set_comm, set_past, set_split}
use Rattle.rowan_green.specs.declared.utility_types.NodeOrToken.TheVariants.{Node, Token}
use Rattle.rowan_green.specs.Edits.{replaced}
use Rattle.rowan_terms.specs.Path.{Path, term_children, subterm_of, subterm, with_child, put_of}
use Rattle.rowan_terms.specs.Path.{put, separate}
use Rattle.rowan_green.specs.Term.{NodeTerm, Term, terms, forest, node_of, node_kind, node_children}
use Rattle.rowan_green.specs.Term.{term_kind, term_len, sum_of_lens}
use Rattle.rowan_terms.proofs.EditLaws.{replaced-within, replaced-itself, replaced-absent}
use Rattle.rowan_green.proofs.EditLemmas.{replaced-past}
use Rattle.rowan_terms.proofs.Paths.{subterm_of-append}
use Rattle.rowan_terms.proofs.SeparateLemmas.{Part, part-separate, separate-sym}
use Rattle.rowan_green.proofs.Terms.{terms-forest}

-- ---- one element of a list replaced

pub replaced-set : {A : Type 0} (xs : List A) (i : ℕ) (x : A) → replaced xs i x ≡ set xs i x
replaced-set xs i x =
    let next : i + 1 ≡ suc i = omega arith in elim (cases_lt i (length xs)) [
      | inl h ↦ replaced-within xs i x h ∙ ap (λ n. take i xs ++ x ∷ drop n xs) next
          ∙ sym (set_split xs i x h)
      | inr h ↦ replaced-past xs i x h ∙ sym (set_past xs i x h)
    ]

pub get-set : {A : Type 0} (xs : List A) (i : ℕ) (x y : A) → slice_get xs i ≡ Some y
    → slice_get (set xs i x) i ≡ Some x
get-set [] i x y h = absurd cc
get-set (z ∷ zs) zero x y h = refl
get-set (z ∷ zs) (suc i) x y h = get-set zs i x y h

pub get-set_other : {A : Type 0} (xs : List A) (i j : ℕ) (x : A) → i ≢ j
    → slice_get (set xs i x) j ≡ slice_get xs j
get-set_other [] i j x n = refl
get-set_other (z ∷ zs) zero zero x n = absurd (n refl)
get-set_other (z ∷ zs) zero (suc j) x n = refl
get-set_other (z ∷ zs) (suc i) zero x n = refl
get-set_other (z ∷ zs) (suc i) (suc j) x n = get-set_other zs i j x (λ e. n (ap suc e))

past-none : {A : Type 0} (xs : List A) (i : ℕ) → slice_get xs i ≡ None → length xs ≤ i
past-none [] i h = omega arith
past-none (x ∷ xs) zero h = absurd cc
past-none (x ∷ xs) (suc i) h = omega (arith, past-none xs i h)

pub sum-set : (ts : List Term) (i : ℕ) (x c : Term) → slice_get ts i ≡ Some c
    → sum_of_lens (set ts i x) + term_len c ≡ sum_of_lens ts + term_len x
sum-set [] i x c h = absurd cc
sum-set (t ∷ ts) zero x c h = let e : t ≡ c = cc in omega (arith, ap term_len e)
sum-set (t ∷ ts) (suc i) x c h = omega (arith, sum-set ts i x c h)

-- ---- one child replaced

-- a node of a kind with these children, as a term
abbrev term_of : ℕ → List Term → Term
term_of k ts = Node (node_of k ts)

pub term_children-with_child : (t : Term) (i : ℕ) (u : Term)
    → term_children (with_child t i u) ≡ set (term_children t) i u
term_children-with_child (Node n) i u =
    terms-forest (replaced (node_children n) i u) ∙ replaced-set (node_children n) i u
term_children-with_child (Token t) i u = refl

pub term_kind-with_child : (t : Term) (i : ℕ) (u : Term)
    → term_kind (with_child t i u) ≡ term_kind t
term_kind-with_child (Node n) i u = refl
term_kind-with_child (Token t) i u = refl

-- the children after two of them are replaced
children-twice : (ts : List Term) (i j : ℕ) (u v : Term)
    → replaced (terms (forest (replaced ts i u))) j v ≡ set (set ts i u) j v
children-twice ts i j u v =
    replaced-set (terms (forest (replaced ts i u))) j v
    ∙ ap (λ us. set us j v) (terms-forest (replaced ts i u) ∙ replaced-set ts i u)

with_child-again : (t : Term) (i : ℕ) (u v : Term)
    → with_child (with_child t i u) i v ≡ with_child t i v
with_child-again (Node n) i u v =
    let ts = node_children n in
    ap (term_of (node_kind n))
    (children-twice ts i i u v ∙ set-set ts i u v ∙ sym (replaced-set ts i v))
with_child-again (Token t) i u v = refl

with_child-other : (t : Term) (i j : ℕ) (u v : Term) → i ≢ j
    → with_child (with_child t i u) j v ≡ with_child (with_child t j v) i u
with_child-other (Node n) i j u v h =
    let ts = node_children n in
    ap (term_of (node_kind n))
    (children-twice ts i j u v ∙ set_comm ts i j u v h ∙ sym (children-twice ts j i v u))
with_child-other (Token t) i j u v h = refl

pub with_child-itself : (t : Term) (i : ℕ) (u : Term) → slice_get (term_children t) i ≡ Some u
    → with_child t i u ≡ t
with_child-itself (Node n) i u h = ap Node (replaced-itself n i u h)
with_child-itself (Token t) i u h = refl

with_child-absent : (t : Term) (i : ℕ) (u : Term) → slice_get (term_children t) i ≡ None
    → with_child t i u ≡ t
with_child-absent (Node n) i u h = ap Node (replaced-absent n i u (past-none (node_children n) i h))
with_child-absent (Token t) i u h = refl

child-other : (t : Term) (i j : ℕ) (u : Term) → i ≢ j
    → slice_get (term_children (with_child t i u)) j ≡ slice_get (term_children t) j
child-other t i j u n = ap (λ ts. slice_get ts j) (term_children-with_child t i u)
    ∙ get-set_other (term_children t) i j u n

child-new : (t : Term) (i : ℕ) (u c : Term) → slice_get (term_children t) i ≡ Some c
    → slice_get (term_children (with_child t i u)) i ≡ Some u
child-new t i u c h = ap (λ ts. slice_get ts i) (term_children-with_child t i u)
    ∙ get-set (term_children t) i u c h

-- a child is there where something stands below it
pub child-of : (t : Option Term) (p : Path) (w : Term) → subterm_of t p ≡ Some w
    → (c : Term) × (t ≡ Some c)
child-of None p w h = absurd cc
child-of (Some t) p w h = (t, refl)

child-put : (t : Term) (i : ℕ) (u : Term) (p : Path) (w : Term)
    → subterm_of (slice_get (term_children t) i) p ≡ Some w
    → slice_get (term_children (with_child t i u)) i ≡ Some u
child-put t i u p w h = let c = child-of (slice_get (term_children t) i) p w h in
    child-new t i u c.0 c.1

-- ---- what stands where

put_of-here : (t : Option Term) (u : Term) → put_of t [] u ≡ u
put_of-here None u = refl
put_of-here (Some t) u = refl

-- where nothing stands, nothing is replaced
pub put-absent : (t : Term) (p : Path) (u : Term) → subterm t p ≡ None → put t p u ≡ t
put-absent t [] u h = absurd cc
put-absent t (i ∷ p) u h = at (λ c. put-absent c p u) (slice_get (term_children t) i) refl h
  where
    at : ((c : Term) → subterm c p ≡ None → put c p u ≡ c) → (s : Option Term)
        → slice_get (term_children t) i ≡ s → subterm_of s p ≡ None
        → with_child t i (put_of s p u) ≡ t
    at same None e h = with_child-absent t i (put_of None p u) e
    at same (Some c) e h = ap (with_child t i) (same c h) ∙ with_child-itself t i c e

-- what was put stands at its path
pub subterm_of-put : (t : Option Term) (p : Path) (u w : Term) → subterm_of t p ≡ Some w
    → subterm (put_of t p u) p ≡ Some u
subterm_of-put None p u w h = absurd cc
subterm_of-put (Some t) [] u w h = refl
subterm_of-put (Some t) (i ∷ p) u w h =
    let s = slice_get (term_children t) i in
    ap (λ o. subterm_of o p) (child-put t i (put_of s p u) p w h) ∙ subterm_of-put s p u w h

pub subterm-put : (t : Term) (p : Path) (u w : Term) → subterm t p ≡ Some w
    → subterm (put t p u) p ≡ Some u
subterm-put t p u w h = subterm_of-put (Some t) p u w h

-- what stands at a path that parts from it stays
subterm_of-apart : (t : Option Term) (p q : Path) (u w : Term) → subterm_of t p ≡ Some w → Part p q
    → subterm (put_of t p u) q ≡ subterm_of t q
subterm_of-apart None p q u w h r = absurd cc
subterm_of-apart (Some t) [] q u w h r = absurd r
subterm_of-apart (Some t) (i ∷ p) [] u w h r = absurd r
subterm_of-apart (Some t) (i ∷ p) (j ∷ q) u w h r =
    let s = slice_get (term_children t) i in elim r [
      | inl n ↦ ap (λ o. subterm_of o q) (child-other t i j (put_of s p u) n)
      | inr e ↦
          ap (λ k. subterm_of (slice_get (term_children (with_child t i (put_of s p u))) k) q)
          (sym e.0)
          ∙ ap (λ o. subterm_of o q) (child-put t i (put_of s p u) p w h)
          ∙ subterm_of-apart s p q u w h e.1
          ∙ ap (λ k. subterm_of (slice_get (term_children t) k) q) e.0
    ]

pub subterm-apart : (t : Term) (p q : Path) (u : Term) → separate p q ≡ true
    → subterm (put t p u) q ≡ subterm t q
subterm-apart t p q u r = at (subterm t p) refl
  where
    at : (o : Option Term) → subterm t p ≡ o → subterm (put t p u) q ≡ subterm t q
    at None e = ap (λ v. subterm v q) (put-absent t p u e)
    at (Some w) e = subterm_of-apart (Some t) p q u w e (part-separate p q r)

-- below the path stands what stands in the new subterm
pub subterm-put_below : (t : Term) (p q : Path) (u w : Term) → subterm t p ≡ Some w
    → subterm (put t p u) (p ++ q) ≡ subterm u q
subterm-put_below t p q u w h =
    subterm_of-append (Some (put t p u)) p q ∙ ap (λ o. subterm_of o q) (subterm-put t p u w h)

-- a replacement further down is one in the subterm on the way
put_of-join : (t : Option Term) (p q : Path) (u v : Term) → subterm_of t p ≡ Some v
    → put_of t (p ++ q) u ≡ put_of t p (put v q u)
put_of-join None p q u v h = absurd cc
put_of-join (Some t) [] q u v h = let e : t ≡ v = cc in ap (λ w. put w q u) e
put_of-join (Some t) (i ∷ p) q u v h =
    ap (with_child t i) (put_of-join (slice_get (term_children t) i) p q u v h)

pub put-join : (t : Term) (p q : Path) (u v : Term) → subterm t p ≡ Some v
    → put t (p ++ q) u ≡ put t p (put v q u)
put-join t p q u v h = put_of-join (Some t) p q u v h

-- one step up: a replacement of a child is one of the parent
pub put-child : (t : Term) (p : Path) (i : ℕ) (u v : Term) → subterm t p ≡ Some v
    → put t (p ++ i ∷ []) u ≡ put t p (with_child v i u)
put-child t p i u v h = put-join t p (i ∷ []) u v h
    ∙ ap (λ w. put t p (with_child v i w)) (put_of-here (slice_get (term_children v) i) u)

-- above the path, the subterms have the replacement
pub subterm-put_above : (t : Term) (p q : Path) (u v : Term) → subterm t p ≡ Some v
    → subterm (put t (p ++ q) u) p ≡ Some (put v q u)
subterm-put_above t p q u v h =
    ap (λ w. subterm w p) (put-join t p q u v h) ∙ subterm-put t p (put v q u) v h

pub term_kind-put : (t : Term) (i : ℕ) (p : Path) (u : Term)
    → term_kind (put t (i ∷ p) u) ≡ term_kind t
term_kind-put t i p u = term_kind-with_child t i (put_of (slice_get (term_children t) i) p u)

-- a node above the path stays a node of its kind, with as many children
pub subterm-put_ancestor : (t : Term) (p : Path) (i : ℕ) (q : Path) (u : Term) (n : NodeTerm)
    → subterm t p ≡ Some (Node n)
    → (m : NodeTerm) × (subterm (put t (p ++ i ∷ q) u) p ≡ Some (Node m))
    × (node_kind m ≡ node_kind n) × (length (node_children m) ≡ length (node_children n))
subterm-put_ancestor t p i q u n h =
    let x = put_of (slice_get (node_children n) i) q u in (
      node_of (node_kind n) (replaced (node_children n) i x),
      subterm-put_above t p (i ∷ q) u (Node n) h,
      refl,
      ap length (term_children-with_child (Node n) i x) ∙ length-set (node_children n) i x,
    )

-- ---- two replacements

put_of-again : (t : Option Term) (p : Path) (u v w : Term) → subterm_of t p ≡ Some w
    → put (put_of t p u) p v ≡ put_of t p v
put_of-again None p u v w h = absurd cc
put_of-again (Some t) [] u v w h = refl
put_of-again (Some t) (i ∷ p) u v w h =
    let s = slice_get (term_children t) i in
    ap (λ o. with_child (with_child t i (put_of s p u)) i (put_of o p v))
    (child-put t i (put_of s p u) p w h)
    ∙ with_child-again t i (put_of s p u) (put (put_of s p u) p v)
    ∙ ap (with_child t i) (put_of-again s p u v w h)

-- the later of two replacements at one path counts
pub put-again : (t : Term) (p : Path) (u v : Term) → put (put t p u) p v ≡ put t p v
put-again t p u v = at (subterm t p) refl
  where
    at : (o : Option Term) → subterm t p ≡ o → put (put t p u) p v ≡ put t p v
    at None e = ap (λ w. put w p v) (put-absent t p u e)
    at (Some w) e = put_of-again (Some t) p u v w e

put_of-itself : (t : Option Term) (p : Path) (w : Term) → subterm_of t p ≡ Some w
    → t ≡ Some (put_of t p w)
put_of-itself None p w h = absurd cc
put_of-itself (Some t) [] w h = h
put_of-itself (Some t) (i ∷ p) w h =
    let s = slice_get (term_children t) i in
    ap Some (sym (with_child-itself t i (put_of s p w) (put_of-itself s p w h)))

-- a subterm in place of itself
pub put-itself : (t : Term) (p : Path) (w : Term) → subterm t p ≡ Some w → put t p w ≡ t
put-itself t p w h = let e = put_of-itself (Some t) p w h in cc

pub put-back : (t : Term) (p : Path) (u w : Term) → subterm t p ≡ Some w → put (put t p u) p w ≡ t
put-back t p u w h = put-again t p u w ∙ put-itself t p w h

put_of-commute : (t : Option Term) (p q : Path) (u v w : Term) → subterm_of t p ≡ Some w → Part p q
    → put (put_of t p u) q v ≡ put (put_of t q v) p u
put_of-commute None p q u v w h r = absurd cc
put_of-commute (Some t) [] q u v w h r = absurd r
put_of-commute (Some t) (i ∷ p) [] u v w h r = absurd r
put_of-commute (Some t) (i ∷ p) (j ∷ q) u v w h r =
    let s = slice_get (term_children t) i in
    let x = put_of s p u in elim r [
      | inl n ↦ (
          let y = put_of (slice_get (term_children t) j) q v in
          ap (λ o. with_child (with_child t i x) j (put_of o q v)) (child-other t i j x n)
          ∙ with_child-other t i j x y n
          ∙ ap (λ o. with_child (with_child t j y) i (put_of o p u))
          (sym (child-other t j i y (λ e. n (sym e))))
          )
      | inr e ↦ (
          let y = put_of s q v in
          ap (λ k. with_child (with_child t i x) k
          (put_of (slice_get (term_children (with_child t i x)) k) q v)) (sym e.0)
          ∙ ap (λ o. with_child (with_child t i x) i (put_of o q v)) (child-put t i x p w h)
          ∙ with_child-again t i x (put x q v)
          ∙ ap (with_child t i) (put_of-commute s p q u v w h e.1)
          ∙ sym (with_child-again t i y (put y p u))
          ∙ ap (λ o. with_child (with_child t i y) i (put_of o p u)) (sym (child-put t i y p w h))
          ∙ ap (λ k. put (with_child t k (put_of (slice_get (term_children t) k) q v)) (i ∷ p) u)
          e.0
          )
    ]

-- replacements at separate paths may come in either order
pub put-commute : (t : Term) (p q : Path) (u v : Term) → separate p q ≡ true
    → put (put t p u) q v ≡ put (put t q v) p u
put-commute t p q u v r = at (subterm t p) refl
  where
    at : (o : Option Term) → subterm t p ≡ o → put (put t p u) q v ≡ put (put t q v) p u
    at None e =
        let absent : subterm (put t q v) p ≡ None =
        subterm-apart t q p v (separate-sym q p ∙ r) ∙ e in
        ap (λ w. put w q v) (put-absent t p u e) ∙ sym (put-absent (put t q v) p u absent)
    at (Some w) e = put_of-commute (Some t) p q u v w e (part-separate p q r)
