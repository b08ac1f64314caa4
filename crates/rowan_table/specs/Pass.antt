-- A pass over the elements of a term, in the order of their paths: what is left of it at a path,
-- and what lies before.
--     It is said for every list of paths below a term that is put together from lists below its
--     children: for that of its leaves, and for that of all its elements.
-- A pass inside the element at a path `top` is one that leads to no path but those that top begins.
use Rattle.std.specs.Prelude.{◌≡◌, ℕ, suc, List, [], ◌∷◌, ◌++◌, map, take, drop, reverse, Option}
use Rattle.std.specs.Prelude.{Some, None, slice_get}
use Rattle.std.specs.List.{find}
use Rattle.rowan_green.specs.declared.utility_types.NodeOrToken.TheVariants.{Node, Token}
use Rattle.rowan_green.specs.Term.{NodeTerm, node, Forest, empty, node_then, token_then, Term}
use Rattle.rowan_terms.specs.Path.{Path, term_children, subterm_of, begins}
use Rattle.rowan_table.specs.Moves.{children_of, child_count, leaf_paths}

-- for each term, paths below it
abbrev pub Lists : Type 0
Lists = Term → List Path

-- of all leaves
abbrev pub leaf_list : Lists
leaf_list = leaf_paths

-- of all elements, the term itself first
abbrev mutual
  pub node_elements : NodeTerm → List Path
  node_elements (node k f) = [] ∷ elements_from 0 f

  pub elements_from : ℕ → Forest → List Path
  elements_from i empty = []
  elements_from i (node_then n f) = map (λ q. i ∷ q) (node_elements n) ++ elements_from (suc i) f
  elements_from i (token_then t f) = (i ∷ []) ∷ elements_from (suc i) f

abbrev pub element_list : Lists
element_list (Node n) = node_elements n
element_list (Token t) = [] ∷ []

-- the paths below the children from place i on
abbrev pub below_children : Lists → ℕ → List Term → List Path
below_children g i [] = []
below_children g i (t ∷ ts) = map (λ q. i ∷ q) (g t) ++ below_children g (suc i) ts

abbrev pub of_some : Lists → Option Term → List Path
of_some g None = []
of_some g (Some t) = g t

-- the paths behind an element, and not below it
abbrev pub after : Lists → Option Term → Path → List Path
after g None p = []
after g (Some t) [] = []
after g (Some t) (i ∷ p) =
    map (λ q. i ∷ q) (after g (slice_get (term_children t) i) p)
    ++ below_children g (suc i) (drop (suc i) (term_children t))

-- the paths before an element
abbrev pub before : Lists → Option Term → Path → List Path
before g None p = []
before g (Some t) [] = []
before g (Some t) (i ∷ p) =
    below_children g 0 (take i (term_children t))
    ++ map (λ q. i ∷ q) (before g (slice_get (term_children t) i) p)

-- the paths from an element on, those below it too
abbrev pub since : Lists → Option Term → Path → List Path
since g t p = map (λ q. p ++ q) (of_some g (subterm_of t p)) ++ after g t p

-- the paths from the child of an element at a place on
abbrev pub since_child : Lists → Option Term → Path → ℕ → List Path
since_child g t p i =
    map (λ q. p ++ q) (below_children g i (drop i (children_of (subterm_of t p)))) ++ after g t p

-- the paths up to the end of an element, those below it too
abbrev pub until : Lists → Option Term → Path → List Path
until g t p = before g t p ++ map (λ q. p ++ q) (of_some g (subterm_of t p))

-- the paths up to the child of an element at a place, and none of that child
abbrev pub until_child : Lists → Option Term → Path → ℕ → List Path
until_child g t p i =
    before g t p ++ map (λ q. p ++ q) (below_children g 0 (take i (children_of (subterm_of t p))))

-- on: behind p and all below it comes q
pub record ComesBehind (root : NodeTerm) (p q : Path) : Type 0 where
  pub same : (g : Lists) → since g (Some (Node root)) q ≡ after g (Some (Node root)) p

-- on: behind p, and maybe below it, comes q
pub record ComesNext (root : NodeTerm) (p q : Path) : Type 0 where
  pub same : (g : Lists) → since g (Some (Node root)) q ≡ since_child g (Some (Node root)) p 0

-- back: before p comes q
pub record ComesBefore (root : NodeTerm) (p q : Path) : Type 0 where
  pub same : (g : Lists) → until g (Some (Node root)) q ≡ before g (Some (Node root)) p

-- back: before the end of p, and maybe below p, comes q
pub record ComesBack (root : NodeTerm) (p q : Path) : Type 0 where
  pub same : (g : Lists)
      → until g (Some (Node root)) q ≡ until_child g (Some (Node root)) p (child_count root p)

-- the first of some paths inside the element at top
abbrev pub first_inside : Path → List Path → Option Path
first_inside top paths = find (begins top) paths

-- the last of some paths inside the element at top
abbrev pub last_inside : Path → List Path → Option Path
last_inside top paths = find (begins top) (reverse paths)
