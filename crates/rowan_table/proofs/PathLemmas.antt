-- Laws of paths: the offset of a child, and the steps of the moves.
use Rattle.std.proofs.Common.{◌≡◌, ℕ, zero, suc, ◌+◌, ◌<◌, false, List, [], ◌∷◌, ◌++◌, length}
use Rattle.std.proofs.Common.{Option, Some, None, refl, sym, ◌∙◌, ap, arith, ◌-◌, reverse, ◌⊎◌, inl}
use Rattle.std.proofs.Common.{inr}
use Rattle.std.specs.Prelude.{slice_get}
use Rattle.std.specs.Option.{option_map, option_map_or}
use Rattle.rowan_green.specs.declared.utility_types.NodeOrToken.TheVariants.{Node, Token}
use Rattle.rowan_green.specs.Term.{NodeTerm, Term, node_children}
use Rattle.rowan_terms.specs.Path.{Path, term_children, subterm_of, subterm, begins, offset, len_of}
use Rattle.rowan_green.specs.Search.{child_start}
use Rattle.rowan_terms.proofs.OffsetLemmas.{offset_of, lens_before-node, offset-lens, offset-join}
use Rattle.rowan_terms.proofs.Paths.{offset-empty, begins-other}
pub use Rattle.rowan_terms.proofs.Paths.{subterm_of-append, subterm_of-here, begins-same}
pub use Rattle.rowan_terms.proofs.Paths.{begins-own, begins-self, begins-rest}
pub use Rattle.rowan_green.proofs.Terms.{node_len-children}
use Rattle.rowan_table.specs.Cursor.{last_index}
use Rattle.rowan_table.specs.Moves.{parent_path, children_of, numbers, below, child_count}
use Rattle.rowan_table.specs.Moves.{first_at, following, preceding}

-- the offset of a child is that of its node, and then the lengths of the children before it
pub offset-node_child : (t : Term) (p : Path) (i : ℕ) (n : NodeTerm) → subterm t p ≡ Some (Node n)
    → offset t (p ++ i ∷ []) ≡ offset t p + child_start (node_children n) i
offset-node_child t p i n h = omega (
  arith,
  offset-join t p (i ∷ []) (Node n) h,
  offset-lens (Node n) (i ∷ []),
  lens_before-node n i [],
  child-first (slice_get (node_children n) i),
)
  where
    child-first : (u : Option Term) → offset_of u [] ≡ 0
    child-first None = refl
    child-first (Some u) = sym (offset-lens u []) ∙ offset-empty u

pub offset-child : (root : NodeTerm) (p : Path) (i : ℕ)
    → i < length (children_of (subterm (Node root) p))
    → offset (Node root) (p ++ i ∷ []) ≡ offset (Node root) p
    + child_start (children_of (subterm (Node root) p)) i
offset-child root p i h = at (subterm (Node root) p) refl h
  where
    at : (u : Option Term) → subterm (Node root) p ≡ u → i < length (children_of u)
        → offset (Node root) (p ++ i ∷ []) ≡ offset (Node root) p + child_start (children_of u) i
    at None e h = absurd (omega arith)
    at (Some (Token t)) e h = absurd (omega arith)
    at (Some (Node n)) e h = offset-node_child (Node root) p i n e

-- where the next child starts
pub child_start-next : (ts : List Term) (i : ℕ) → i < length ts
    → child_start ts (i + 1) ≡ child_start ts i + len_of (slice_get ts i)
child_start-next [] i h = absurd (omega arith)
child_start-next (t ∷ ts) zero h = omega arith
child_start-next (t ∷ ts) (suc i) h =
    let next : suc i + 1 ≡ suc (i + 1) = omega arith in
    omega (arith, ap (child_start (t ∷ ts)) next, child_start-next ts i (omega arith))

-- going down to a child
pub subterm-child : (t : Option Term) (p : Path) (i : ℕ)
    → subterm_of t (p ++ i ∷ []) ≡ slice_get (children_of (subterm_of t p)) i
subterm-child t p i = subterm_of-append t p (i ∷ []) ∙ below (subterm_of t p)
  where
    below : (u : Option Term) → subterm_of u (i ∷ []) ≡ slice_get (children_of u) i
    below None = refl
    below (Some u) = subterm_of-here (slice_get (term_children u) i)

-- The last place of a path, and the path without it.
pub parent_path-child : (p : Path) (i : ℕ) → parent_path (p ++ i ∷ []) ≡ Some p
parent_path-child [] i = refl
parent_path-child (j ∷ []) i = refl
parent_path-child (j ∷ k ∷ p) i = ap (option_map (λ q. j ∷ q)) (parent_path-child (k ∷ p) i)

pub last_index-child : (p : Path) (i : ℕ) → last_index (p ++ i ∷ []) ≡ i
last_index-child [] i = refl
last_index-child (j ∷ []) i = refl
last_index-child (j ∷ k ∷ p) i = last_index-child (k ∷ p) i

pub following-child : (root : NodeTerm) (p : Path) (i : ℕ)
    → following root (p ++ i ∷ []) ≡ below p (numbers (i + 1) (child_count root p - (i + 1)))
following-child root p i =
    ap (λ k. option_map_or (λ q. below q (numbers (k + 1) (child_count root q - (k + 1))))
    (parent_path (p ++ i ∷ [])) []) (last_index-child p i)
    ∙ ap (λ o. option_map_or (λ q. below q (numbers (i + 1) (child_count root q - (i + 1)))) o [])
    (parent_path-child p i)

pub preceding-child : (root : NodeTerm) (p : Path) (i : ℕ)
    → preceding root (p ++ i ∷ []) ≡ below p (reverse (numbers 0 i))
preceding-child root p i =
    ap (λ k. option_map_or (λ q. below q (reverse (numbers 0 k))) (parent_path (p ++ i ∷ [])) [])
    (last_index-child p i) ∙ ap (λ o. option_map_or (λ q. below q (reverse (numbers 0 i))) o [])
    (parent_path-child p i)

-- the first of children side by side
pub below-first : (p : Path) (a n : ℕ) (s : Path) → Some s ≡ first_at (below p (numbers a n))
    → (s ≡ p ++ a ∷ []) × (0 < n)
below-first p a zero s h = absurd cc
below-first p a (suc n) s h = (cc, omega arith)

pub below-none : (p : Path) (a n : ℕ) → ◌≡◌ {A = Option Path} None
    (first_at (below p (numbers a n))) → n ≡ 0
below-none p a zero h = refl
below-none p a (suc n) h = absurd cc

-- each path but the empty one has a parent and a last place
pub last-split : (p : Path) → (p ≡ []) ⊎ ((q : Path) × (i : ℕ) × (p ≡ q ++ i ∷ []))
last-split [] = inl refl
last-split (i ∷ p) = inr (elim (last-split p)
    [ inl e ↦ ([], i, ap (λ q. i ∷ q) e) | inr s ↦ (i ∷ s.0, s.1, ap (λ q. i ∷ q) s.2) ])

-- paths that differ in the first place
pub not-begins : (i j : ℕ) (p q : Path) → (i < j) ⊎ (j < i) → begins (i ∷ p) (j ∷ q) ≡ false
not-begins i j p q h = begins-other i j p q (λ e. elim h
    [ inl l ↦ omega (arith, e, l) | inr l ↦ omega (arith, e, l) ])
