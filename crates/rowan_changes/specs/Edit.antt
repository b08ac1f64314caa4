-- Edits of one tree.
--     An edit puts terms in the place of some children of a node that stand side by side, or into
--     the gap between two children: so it replaces, deletes or inserts. All places are those of the
--     tree as it was, whatever else is edited.
--     Edits stand in the order of their places, and each ends before the next begins. They are made
--     from the last to the first, since none of them moves what stands before it.
use Rattle.std.specs.Prelude.{◌≡◌, ◌<◌, ◌≤◌}
use Rattle.std.specs.Prelude.{ℕ, Bool, false, not, ◌&&◌, ◌||◌, nat_lt, nat_le, nat_eq}
use Rattle.std.specs.Prelude.{List, [], ◌∷◌, ◌++◌, Option, Some, None}
use Rattle.rowan_green.specs.declared.utility_types.NodeOrToken.TheVariants.{Node, Token}
use Rattle.rowan_green.specs.Edits.{spliced}
use Rattle.rowan_terms.specs.Path.{Path, subterm, put}
use Rattle.rowan_green.specs.Term.{Term, node_of, node_kind, node_children}

-- the children of the node at a path from the index `start` on and before the index `end`, and the
-- terms that take their place
pub record Edit : Type 0 where
  pub parent : Path
  pub start : ℕ
  pub end : ℕ
  pub new : List Term

-- the node with these terms in the place of some of its children; a token has none
abbrev pub with_spliced : Term → Edit → Term
with_spliced (Node n) e =
    Node (node_of (node_kind n) (spliced (node_children n) e.start e.end e.new))
with_spliced (Token t) e = Token t

-- what stands at the edit's path, if anything does, with the edit made in it
abbrev pub put_spliced : Term → Edit → Option Term → Term
put_spliced t e None = t
put_spliced t e (Some u) = put t e.parent (with_spliced u e)

-- the term after one edit
abbrev pub edited_once : Term → Edit → Term
edited_once t e = put_spliced t e (subterm t e.parent)

-- the term after these edits, which are made from the last to the first
abbrev pub edited : Term → List Edit → Term
edited t [] = t
edited t (e ∷ es) = edited_once (edited t es) e

-- the place before the child at the index `end` of the node at the path `parent` lies before
-- another place
abbrev pub lies_before : Path → ℕ → Path → Bool
lies_before parent end [] = false
lies_before [] end (k ∷ place) = nat_le end k
lies_before (i ∷ parent) end (k ∷ place) =
    nat_lt i k || (nat_eq i k && lies_before parent end place)

-- where an edit begins
abbrev pub place : Edit → Path
place e = e.parent ++ e.start ∷ []

-- the first edit ends before the second begins
abbrev pub ends_before : Edit → Edit → Bool
ends_before e f = lies_before e.parent e.end (place f)

-- neither ends before the other begins: both take away the same child, or one of them is inside of
-- what the other takes away
abbrev pub conflicts : Edit → Edit → Bool
conflicts e f = not (ends_before e f) && not (ends_before f e)

-- the children from s to e of the node at p and those from t to f of the node at q: both nodes are
-- the same and a child is among both, or the gap where nothing is taken away is inside of what the
-- other takes away; or one node is one of the other's children or stands in one
abbrev pub Overlap : Path → ℕ → ℕ → Path → ℕ → ℕ → Type 0
Overlap [] s e [] t f = (s < f) × (t < e)
Overlap [] s e (j ∷ q) t f = (s ≤ j) × (j < e)
Overlap (i ∷ p) s e [] t f = (t ≤ i) × (i < f)
Overlap (i ∷ p) s e (j ∷ q) t f = (i ≡ j) × Overlap p s e q t f

abbrev pub EditsOverlap : Edit → Edit → Type 0
EditsOverlap e f = Overlap e.parent e.start e.end f.parent f.start f.end
