-- Children in a walk, and the events of a root.
use Rattle.std.proofs.Common.{◌≡◌, ℕ, zero, suc, ◌+◌, ◌<◌, List, [], ◌∷◌, ◌++◌, map, length, drop}
use Rattle.std.proofs.Common.{Some, ◌∙◌, ap, arith}
use Rattle.std.specs.Prelude.{slice_get}
use Rattle.rowan_green.specs.declared.utility_types.NodeOrToken.TheVariants.{Node}
use Rattle.rowan_green.specs.declared.utility_types.WalkEvent.{WalkEvent}
use Rattle.rowan_green.specs.Term.{NodeTerm, Term, node_children, term_len}
use Rattle.rowan_terms.specs.Path.{Path, subterm, len_of}
use Rattle.rowan_green.specs.Search.{child_start}
use Rattle.rowan_table.specs.Moves.{Element, children_of, element_at}
use Rattle.rowan_table.specs.Preorder.{event_map}
use Rattle.rowan_table.proofs.OffsetLemmas.{drop-first}
use Rattle.rowan_table.proofs.PathLemmas.{subterm-child, child_start-next}

-- the child at the front of what is left of a node's children
pub front-child : (root : NodeTerm) (p : Path) (n : NodeTerm) (i : ℕ) (c : Term) (ts : List Term)
    → subterm (Node root) p ≡ Some (Node n) → drop i (node_children n) ≡ c ∷ ts
    → subterm (Node root) (p ++ i ∷ []) ≡ Some c
front-child root p n i c ts there rest =
    subterm-child (Some (Node root)) p i ∙ ap (λ o. slice_get (children_of o) i) there
    ∙ (drop-first i (node_children n) c ts rest).0

-- where the next child starts
pub next-start : (ts : List Term) (i : ℕ) (c : Term) (us : List Term) → drop i ts ≡ c ∷ us
    → child_start ts (suc i) ≡ child_start ts i + term_len c
next-start ts i c us rest =
    let at = drop-first i ts c us rest in
    let one : suc i ≡ i + 1 = omega arith in
    ap (child_start ts) one ∙ child_start-next ts i (within ts i c at.0)
    ∙ ap (λ o. child_start ts i + len_of o) at.0
  where
    within : (ts : List Term) (m : ℕ) (c : Term) → slice_get ts m ≡ Some c → m < length ts
    within [] m c h = absurd cc
    within (t ∷ ts) zero c h = omega arith
    within (t ∷ ts) (suc m) c h = omega (arith, within ts m c h)

-- the event of an element of a root
abbrev pub at_elements : NodeTerm → List (WalkEvent Path) → List (WalkEvent Element)
at_elements root es = map (event_map (element_at root)) es
