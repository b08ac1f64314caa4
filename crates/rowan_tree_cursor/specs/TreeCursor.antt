-- The stack of a tree cursor: the nodes above it, the root first. Each frame has a node, the offset
-- at which the node's text starts in that of the root, and the index of the child on the way down.
use Rattle.std.specs.Prelude.{◌≡◌, ℕ, List, [], ◌∷◌, ◌++◌, Some, map}
use Rattle.rowan_green.specs.declared.utility_types.NodeOrToken.TheVariants.{Node}
use Rattle.rowan_green.specs.Fits.{FitsNode}
use Rattle.rowan_terms.specs.Path.{Path, subterm, offset}
use Rattle.rowan_green.specs.Term.{NodeTerm, Term}
use Rattle.rowan_tree_cursor.specs.declared.tree_cursor.Frame.{Frame}

-- the path to what stands below these nodes
abbrev pub path_of : List Frame → Path
path_of fs = map (λ f. f.index) fs

-- the frame is that of the node at a path
pub record IsFrameAt (root : NodeTerm) (p : Path) (f : Frame) : Type 0 where
  pub node : subterm (Node root) p ≡ Some (Node f.node.now)
  pub start : f.start ≡ offset (Node root) p

-- the frames lead down from a path, each to the next
abbrev pub AreFrames : NodeTerm → Path → List Frame → Type 0
AreFrames root p [] = Unit {0}
AreFrames root p (f ∷ fs) = IsFrameAt root p f × AreFrames root (p ++ f.index ∷ []) fs

-- the frames lead from the root to this element, whose text starts at this offset
pub record IsPlaced (root : NodeTerm) (above : List Frame) (element : Term) (at : ℕ)
    : Type 0 where
  pub frames : AreFrames root [] above
  pub stands : subterm (Node root) (path_of above) ≡ Some element
  pub start : at ≡ offset (Node root) (path_of above)
  pub fits : FitsNode root
