-- Children are smaller than their node.
use Rattle.std.proofs.Common.{◌≡◌, ℕ, zero, suc, ◌+◌, ◌<◌, ◌≤◌, Bool, true, false, cond, List, []}
use Rattle.std.proofs.Common.{◌∷◌, ◌++◌, map, length, refl, arith}
use Rattle.std.specs.Prelude.{Option, Some, None, slice_get}
use Rattle.std.specs.Option.{option_map_or}
use Rattle.rowan_green.specs.declared.utility_types.NodeOrToken.TheVariants.{Node, Token}
use Rattle.rowan_terms.specs.Path.{Path, subterm, term_children}
use Rattle.rowan_green.specs.Sizes.{term_size}
use Rattle.rowan_green.specs.Term.{NodeTerm, Term}
use Rattle.rowan_table.specs.Cursor.{Cursor}
use Rattle.rowan_table.specs.Moves.{cursor_at, element_if, element_at, place_of, children}
use Rattle.rowan_table.specs.Moves.{children_with_tokens, children_of, child_count, nodes_at}
use Rattle.rowan_table.specs.Moves.{is_node_at, below, numbers}
use Rattle.rowan_cursor.specs.Sizes.{size_at, AreSmaller}
use Rattle.rowan_table.proofs.PathLemmas.{subterm-child}
use Rattle.rowan_cursor.proofs.SizeLemmas.{child-smaller}

positive : (t : Term) → 0 < term_size t
positive (Node n) = omega arith
positive (Token t) = omega arith

small-in : (t : Term) (i : ℕ) (v : Option Term) → slice_get (term_children t) i ≡ v
    → option_map_or term_size v 0 < term_size t
small-in t i None e = positive t
small-in t i (Some u) e = child-smaller t i u e

small-of : (o : Option Term) (i : ℕ) → i < length (children_of o)
    → option_map_or term_size (slice_get (children_of o) i) 0 < option_map_or term_size o 0
small-of None i h = absurd (omega (arith, h))
small-of (Some t) i h = small-in t i (slice_get (term_children t) i) refl

small-child : (root : NodeTerm) (p : Path) (i : ℕ) → i < child_count root p
    → size_at (cursor_at root (p ++ i ∷ [])) < size_at (cursor_at root p)
small-child root p i h =
    rw (subterm-child (Some (Node root)) p i) (small-of (subterm (Node root) p) i h)

kept : (m : ℕ) (root : NodeTerm) (b : Bool) (q : Path) (qs : List Path)
    → size_at (cursor_at root q) < m → AreSmaller m (map (cursor_at root) qs)
    → AreSmaller m (map (cursor_at root) (cond b (q ∷ qs) qs))
kept m root true q qs h k = (h, k)
kept m root false q qs h k = k

nodes-smaller : (root : NodeTerm) (p : Path) (a n : ℕ) → a + n ≤ child_count root p
    → AreSmaller (size_at (cursor_at root p))
    (map (cursor_at root) (nodes_at root (below p (numbers a n))))
nodes-smaller root p a zero h = tt
nodes-smaller root p a (suc n) h =
    kept (size_at (cursor_at root p)) root (is_node_at root (p ++ a ∷ [])) (p ++ a ∷ [])
    (nodes_at root (below p (numbers (a + 1) n)))
    (small-child root p a (omega (arith, h))) (nodes-smaller root p (a + 1) n (omega (arith, h)))

-- the children of a cursor that are nodes are smaller
pub children-smaller : (c : Cursor) → AreSmaller (size_at c) (children c)
children-smaller c = nodes-smaller c.root c.path 0 (child_count c.root c.path) (omega arith)

place-of_if : (b : Bool) (c : Cursor) → place_of (element_if b c) ≡ c
place-of_if true c = refl
place-of_if false c = refl

elements-smaller : (root : NodeTerm) (p : Path) (a n : ℕ) → a + n ≤ child_count root p
    → AreSmaller (size_at (cursor_at root p))
    (map place_of (map (element_at root) (below p (numbers a n))))
elements-smaller root p a zero h = tt
elements-smaller root p a (suc n) h =
    let q = p ++ a ∷ [] in (
      rw (place-of_if (is_node_at root q) (cursor_at root q)) (small-child root p a
          (omega (arith, h))),
      elements-smaller root p (a + 1) n (omega (arith, h)),
    )

-- the children of a cursor are smaller
pub child-elements-smaller : (c : Cursor)
    → AreSmaller (size_at c) (map place_of (children_with_tokens c))
child-elements-smaller c =
    elements-smaller c.root c.path 0 (child_count c.root c.path) (omega arith)
