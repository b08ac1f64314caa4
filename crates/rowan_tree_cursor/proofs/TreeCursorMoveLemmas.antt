-- The moves of a tree cursor: where they go by the children of the node, and by the last index.
use Rattle.std.proofs.Common.{◌≡◌, ℕ, zero, suc, ◌+◌, ◌-◌, ◌<◌, ◌≤◌, List, [], ◌∷◌, ◌++◌}
use Rattle.std.proofs.Common.{length}
use Rattle.std.proofs.Common.{reverse, Bool, true, false, Option, Some, None, refl, sym, ◌∙◌, ap}
use Rattle.std.proofs.Common.{subst, arith}
use Rattle.std.specs.Prelude.{slice_get}
use Rattle.std.specs.Option.{option_map}
use Rattle.rowan_green.specs.declared.utility_types.NodeOrToken.TheVariants.{Node}
use Rattle.rowan_terms.specs.Path.{Path, offset}
use Rattle.rowan_green.specs.Search.{IsChildAt}
use Rattle.rowan_green.specs.Span.{Span}
use Rattle.rowan_green.specs.Term.{NodeTerm, Term, node_children}
use Rattle.rowan_table.specs.Cursor.{Cursor, term_at}
use Rattle.rowan_table.specs.Moves.{element_at, place_of, cursor_at, children_of}
use Rattle.rowan_table.specs.Moves.{child_count}
use Rattle.rowan_table.specs.Moves.{child_paths, below, numbers, following, preceding, first_at}
use Rattle.rowan_table.specs.Moves.{parent, first_child_or_token, last_child_or_token}
use Rattle.rowan_table.specs.Moves.{next_sibling_or_token, prev_sibling_or_token}
use Rattle.rowan_table.specs.Moves.{child_or_token_at_index}
use Rattle.rowan_green.proofs.SearchLemmas.{has-range}
use Rattle.rowan_table.specs.Search.{IsRangeChild, FindsChild}
use Rattle.rowan_table.proofs.CoverLemmas.{place_of-element}
use Rattle.rowan_table.proofs.PathLemmas.{parent_path-child, following-child, preceding-child}
use Rattle.rowan_table.proofs.RowLemmas.{map-reverse, row-last, row-get, row-past}
use Rattle.rowan_tree_cursor.specs.TreeCursorMoves.{Goes, GoesTo, GoesToChild}

-- ---- answers

pub goes : (found : Option Cursor) (old c new : Cursor) → found ≡ Some c → new ≡ c
    → Goes found old true new
goes found old c new e h = subst (λ o. Goes o old true new) (sym e) (refl, h)

pub stays : (found : Option Cursor) (old new : Cursor) → found ≡ None → new ≡ old
    → Goes found old false new
stays found old new e h = subst (λ o. Goes o old false new) (sym e) (refl, h)

-- the element at a path, if there is one, by the path
to-some : (root : NodeTerm) (o : Option Path) (p : Path) → o ≡ Some p
    → option_map place_of (option_map (element_at root) o) ≡ Some (cursor_at root p)
to-some root o p e = ap (λ q. option_map place_of (option_map (element_at root) q)) e
    ∙ ap Some (place_of-element root p)

to-none : (root : NodeTerm) (o : Option Path) → o ≡ None
    → option_map place_of (option_map (element_at root) o) ≡ None
to-none root o e = ap (λ q. option_map place_of (option_map (element_at root) q)) e

-- ---- down

pub child-some : (c : Cursor) (i : ℕ) → i < child_count c.root c.path
    → option_map place_of (child_or_token_at_index c i) ≡ Some (cursor_at c.root (c.path ++ i ∷ []))
child-some c i h =
    let place : 0 + i ≡ i = omega arith in
    to-some c.root (slice_get (child_paths c.root c.path) i) (c.path ++ i ∷ [])
    (row-get (λ k. c.path ++ k ∷ []) 0 (child_count c.root c.path) i h
    ∙ ap (λ k. Some (c.path ++ k ∷ [])) place)

pub child-none : (c : Cursor) (i : ℕ) → child_count c.root c.path ≤ i
    → option_map place_of (child_or_token_at_index c i) ≡ None
child-none c i h = to-none c.root (slice_get (child_paths c.root c.path) i)
    (row-past (λ k. c.path ++ k ∷ []) 0 (child_count c.root c.path) i h)

-- how many children the element has
pub count-of : (c : Cursor) (t : Term) → term_at c ≡ Some t
    → child_count c.root c.path ≡ length (children_of (Some t))
count-of c t h = ap (λ o. length (children_of o)) h

pub first-is : (c : Cursor) → child_or_token_at_index c 0 ≡ first_child_or_token c
first-is c = ap (option_map (element_at c.root)) (first (child_paths c.root c.path))
  where
    first : (ps : List Path) → slice_get ps 0 ≡ first_at ps
    first [] = refl
    first (p ∷ ps) = refl

pub last-is : (c : Cursor) (i : ℕ) → i ≡ child_count c.root c.path - 1
    → child_or_token_at_index c i ≡ last_child_or_token c
last-is c i e = ap (λ k. child_or_token_at_index c k) e
    ∙ ap (option_map (element_at c.root)) (last (child_count c.root c.path))
  where
    last : (n : ℕ) → slice_get (below c.path (numbers 0 n)) (n - 1)
        ≡ first_at (reverse (below c.path (numbers 0 n)))
    last zero = refl
    last (suc m) =
        let f = λ (k : ℕ). c.path ++ k ∷ [] in
        let place : suc m - 1 ≡ m = omega arith in
        ap (slice_get (below c.path (numbers 0 (suc m)))) place
        ∙ row-get f 0 (suc m) m (omega arith) ∙ sym (ap first_at (row-last f 0 m))

-- ---- beside

-- the next sibling of a child
pub next-some : (root : NodeTerm) (p q : Path) (i j : ℕ) → q ≡ p ++ i ∷ [] → j ≡ i + 1
    → j < child_count root p
    → option_map place_of (next_sibling_or_token (cursor_at root q))
    ≡ Some (cursor_at root (p ++ j ∷ []))
next-some root p q i j path is h =
    to-some root (first_at (following root q)) (p ++ j ∷ [])
    (ap first_at (ap (following root) path ∙ following-child root p i)
    ∙ ap (λ k. first_at (below p (numbers k (child_count root p - k)))) (sym is)
    ∙ first (child_count root p - j) (omega (arith, h)))
  where
    first : (n : ℕ) → 0 < n → first_at (below p (numbers j n)) ≡ Some (p ++ j ∷ [])
    first zero less = absurd (omega arith)
    first (suc n) less = refl

pub next-none : (root : NodeTerm) (p q : Path) (i j : ℕ) → q ≡ p ++ i ∷ [] → j ≡ i + 1
    → child_count root p ≤ j → option_map place_of (next_sibling_or_token (cursor_at root q)) ≡ None
next-none root p q i j path is h =
    let none : child_count root p - j ≡ 0 = omega (arith, h) in
    to-none root (first_at (following root q))
    (ap first_at (ap (following root) path ∙ following-child root p i)
    ∙ ap (λ k. first_at (below p (numbers k (child_count root p - k)))) (sym is)
    ∙ ap (λ n. first_at (below p (numbers j n))) none)

before-first : (p : Path) (j : ℕ)
    → first_at (below p (reverse (numbers 0 (suc j)))) ≡ Some (p ++ j ∷ [])
before-first p j =
    let f = λ (k : ℕ). p ++ k ∷ [] in
    let place : 0 + j ≡ j = omega arith in
    ap first_at (map-reverse f (numbers 0 (suc j)) ∙ row-last f 0 j)
    ∙ ap (λ k. Some (p ++ k ∷ [])) place

-- the sibling before a child
pub previous-some : (root : NodeTerm) (p q : Path) (i j : ℕ) → q ≡ p ++ i ∷ [] → i ≡ j + 1
    → option_map place_of (prev_sibling_or_token (cursor_at root q))
    ≡ Some (cursor_at root (p ++ j ∷ []))
previous-some root p q i j path is =
    let next : i ≡ suc j = omega (arith, is) in
    to-some root (first_at (preceding root q)) (p ++ j ∷ [])
    (ap first_at (ap (preceding root) path ∙ preceding-child root p i)
    ∙ ap (λ k. first_at (below p (reverse (numbers 0 k)))) next
    ∙ before-first p j)

pub previous-none : (root : NodeTerm) (p q : Path) (i : ℕ) → q ≡ p ++ i ∷ [] → i ≡ 0
    → option_map place_of (prev_sibling_or_token (cursor_at root q)) ≡ None
previous-none root p q i path is =
    to-none root (first_at (preceding root q))
    (ap first_at (ap (preceding root) path ∙ preceding-child root p i)
    ∙ ap (λ k. first_at (below p (reverse (numbers 0 k)))) is)

-- the root has no siblings
pub next-root : (root : NodeTerm) (q : Path) → q ≡ []
    → option_map place_of (next_sibling_or_token (cursor_at root q)) ≡ None
next-root root q e = ap (λ p. option_map place_of (next_sibling_or_token (cursor_at root p))) e

pub previous-root : (root : NodeTerm) (q : Path) → q ≡ []
    → option_map place_of (prev_sibling_or_token (cursor_at root q)) ≡ None
previous-root root q e = ap (λ p. option_map place_of (prev_sibling_or_token (cursor_at root p))) e

-- ---- up

pub parent-some : (root : NodeTerm) (p q : Path) (i : ℕ) → q ≡ p ++ i ∷ []
    → parent (cursor_at root q) ≡ Some (cursor_at root p)
parent-some root p q i path =
    ap (λ r. parent (cursor_at root r)) path
    ∙ ap (option_map (cursor_at root)) (parent_path-child p i)

pub parent-root : (root : NodeTerm) (q : Path) → q ≡ [] → parent (cursor_at root q) ≡ None
parent-root root q e = ap (λ p. parent (cursor_at root p)) e

-- ---- to a child at an index

pub down-none : (c : Cursor) (t : Term) (i : ℕ) → term_at c ≡ Some t
    → length (children_of (Some t)) ≤ i → GoesTo (child_or_token_at_index c i) c false c
down-none c t i here past =
    let count = count-of c t here in
    stays (option_map place_of (child_or_token_at_index c i)) c c
    (child-none c i (omega (arith, count, past))) refl

pub down-some : (c : Cursor) (n : NodeTerm) (i : ℕ) (new : Cursor) → term_at c ≡ Some (Node n)
    → i < length (node_children n) → new ≡ cursor_at c.root (c.path ++ i ∷ [])
    → GoesTo (child_or_token_at_index c i) c true new
down-some c n i new here within is =
    let count = count-of c (Node n) here in
    goes (option_map place_of (child_or_token_at_index c i)) c
    (cursor_at c.root (c.path ++ i ∷ [])) new (child-some c i (omega (arith, count, within))) is

-- ---- to the child at a range

pub range-none : (c : Cursor) (span : Span)
    → ((q : Path) → ¬ IsRangeChild c.root span c.path q) → GoesToChild span c false c
range-none c span h = record { found = None; is = h; goes = (refl, refl) }

-- a token has no children, and a node none but those that are at the range in its own text
pub not-child : (c : Cursor) (t : Term) (span : Span) → term_at c ≡ Some t
    → (offset (Node c.root) c.path ≤ span.start → (k : ℕ)
    → ¬ IsChildAt (children_of (Some t)) (span.start - offset (Node c.root) c.path)
    (span.end - offset (Node c.root) c.path) k)
    → (q : Path) → ¬ IsRangeChild c.root span c.path q
not-child c t span here none q = λ r.
    none r.from r.place (subst (λ o. IsChildAt (children_of o)
    (span.start - offset (Node c.root) c.path) (span.end - offset (Node c.root) c.path) r.place)
    here r.child)

pub no-children : (a b k : ℕ) → ¬ IsChildAt [] a b k
no-children a b k = λ h. (let r = has-range [] a b k h in absurd (omega (arith, r.place)))

pub range-some : (c : Cursor) (n : NodeTerm) (span : Span) (i : ℕ) (moved : Bool) (new : Cursor)
    → term_at c ≡ Some (Node n) → offset (Node c.root) c.path ≤ span.start
    → IsChildAt (node_children n) (span.start - offset (Node c.root) c.path)
    (span.end - offset (Node c.root) c.path) i
    → GoesTo (child_or_token_at_index c i) c moved new → GoesToChild span c moved new
range-some c n span i moved new here from child to =
    let p = c.path in
    let a = span.start - offset (Node c.root) p in
    let b = span.end - offset (Node c.root) p in
    let r = has-range (node_children n) a b i child in
    let count = count-of c (Node n) here in
    let place : 0 + i ≡ i = omega arith in
    let found : child_or_token_at_index c i ≡ Some (element_at c.root (p ++ i ∷ [])) =
    ap (option_map (element_at c.root))
    (row-get (λ k. p ++ k ∷ []) 0 (child_count c.root p) i (omega (arith, count, r.place))
    ∙ ap (λ k. Some (p ++ k ∷ [])) place) in
    let own : IsRangeChild c.root span p (p ++ i ∷ []) = record {
      place = i;
      path = refl;
      from = from;
      child = subst (λ o. IsChildAt (children_of o) a b i) (sym here) child;
    } in
    let is : FindsChild span c (Some (element_at c.root (p ++ i ∷ []))) =
    record { path = p ++ i ∷ []; true = own; is = refl } in
    record {
      found = child_or_token_at_index c i;
      is = subst (FindsChild span c) (sym found) is;
      goes = to;
    }
