-- Where a zipper is, and the tree that it is at work on.
use Rattle.std.specs.Prelude.{◌≡◌, ◌≢◌, ℕ, zero, suc, ◌<◌, ◌≤◌, List, [], ◌∷◌, ◌++◌, Some, length}
use Rattle.std.specs.Prelude.{take, slice_get}
use Rattle.rowan_green.specs.declared.fault.Fault.{Fault}
use Rattle.rowan_green.specs.declared.fault.Fault.TheVariants.{Memory}
use Rattle.rowan_green.specs.declared.utility_types.NodeOrToken.TheVariants.{Node}
use Rattle.rowan_terms.specs.Path.{Path, subterm}
use Rattle.rowan_green.specs.Term.{NodeTerm, Term, node_children}
use Rattle.rowan_changes.specs.declared.open_node.OpenNode.{OpenNode}
use Rattle.rowan_changes.specs.declared.zipper.Zipper.{Zipper}
use Rattle.rowan_changes.specs.OpenNode.{closed, around_all, path_below}
use Rattle.rowan_changes.specs.Limits.{PassesLimitAt}

-- the tree, as far as it is edited
abbrev pub tree_of : Zipper → Term
tree_of z = around_all z.above.items (Node (closed z.inner))

-- the path of the innermost node
abbrev pub path_of : Zipper → Path
path_of z = path_below z.above.items

-- what stands before this place is as it was
abbrev pub place_of : Zipper → Path
place_of z = path_of z ++ z.inner.kept ∷ []

-- the open nodes lead from one node down to another, each to a child that is kept no more
abbrev pub Leads : NodeTerm → List OpenNode → NodeTerm → Type 0
Leads top [] bottom = bottom ≡ top
Leads top (n ∷ ns) bottom =
    (n.node.now ≡ top)
    × ((child : NodeTerm)
    × (slice_get (node_children top) n.kept ≡ Some (Node child)) × Leads child ns bottom)

-- the open nodes were those of the root before it was edited
abbrev pub IsStanding : Zipper → Type 0
IsStanding z = Leads z.root.now z.above.items z.inner.node.now

-- a node stands at the path, and has children up to an index
pub record HasPlace (root : NodeTerm) (p : Path) (end : ℕ) : Type 0 where
  pub node : NodeTerm
  pub stands : subterm (Node root) p ≡ Some (Node node)
  pub within : end ≤ length (node_children node)

-- there are no two first places, or they are different
abbrev pub Part : Path → Path → Type 0
Part [] q = Unit {0}
Part (i ∷ p) [] = Unit {0}
Part (i ∷ p) (j ∷ q) = i ≢ j

-- two paths are the same for so many places, and then they part or one of them ends
abbrev pub Fork : Path → Path → ℕ → Type 0
Fork p q zero = Part p q
Fork [] q (suc count) = ⊥
Fork (i ∷ p) [] (suc count) = ⊥
Fork (i ∷ p) (j ∷ q) (suc count) = (i ≡ j) × Fork p q count

-- why not all nodes below so many others are closed: one of them passes a limit
pub record PassesBelow (z : Zipper) (count : ℕ) (fault : Fault) : Type 0 where
  pub depth : ℕ
  pub below : count < depth
  pub within : depth ≤ length (path_of z)
  pub passes : PassesLimitAt (tree_of z) (take depth (path_of z)) fault

abbrev pub WhyNotClosed : Zipper → ℕ → Fault → Type 0
WhyNotClosed z count fault = fault ≢ Memory → PassesBelow z count fault
