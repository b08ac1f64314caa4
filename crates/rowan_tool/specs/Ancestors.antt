-- The nodes above a list, from the root on, each with the index of its child on the way to the
-- list; and the list at a range, parsed anew in its tree.
use Rattle.std.specs.Prelude.{◌≡◌, ◌≢◌, ◌⊎◌, ℕ, List, ◌∷◌, ◌++◌, map, Some}
use Rattle.rowan_green.specs.declared.fault.Fault.{Fault}
use Rattle.rowan_green.specs.declared.fault.Fault.TheVariants.{Memory}
use Rattle.rowan_green.specs.declared.utility_types.NodeOrToken.TheVariants.{Node}
use Rattle.rowan_terms.specs.Path.{Path, subterm}
use Rattle.rowan_green.specs.Span.{Span}
use Rattle.rowan_green.specs.Term.{NodeTerm}
use Rattle.rowan_table.specs.Cursor.{Cursor}
use Rattle.rowan_tool.specs.declared.sexp.reparse.Ancestor.{Ancestor}
use Rattle.rowan_tool.specs.Reparse.{IsReparse, WhyNoReparse, IsListAt, HasNoList}

-- the path of what stands below these nodes
abbrev pub path_below : List Ancestor → Path
path_below ancestors = map (λ a. a.index) ancestors

-- each node stands below those before it
abbrev pub AreAncestors : NodeTerm → List Ancestor → Type 0
AreAncestors root ancestors = (above : List Ancestor) (a : Ancestor) (others : List Ancestor)
    → ancestors ≡ above ++ a ∷ others
    → subterm (Node root) (path_below above) ≡ Some (Node a.node.now)

-- a list of the tree has the range, and the new root has in its place the list that a text is
pub record IsReparseAt (tree : NodeTerm) (span : Span) (text : List ℕ) (new : NodeTerm)
    : Type 0 where
  pub list : Cursor
  pub at : IsListAt tree span list
  pub reparse : IsReparse list text new

-- why there is no such root, want of memory aside: no list has the range; or one has, but it is not
-- parsed anew
abbrev pub WhyNoReparseAt : NodeTerm → Span → List ℕ → Fault → Type 0
WhyNoReparseAt tree span text fault = fault ≢ Memory
    → HasNoList tree span fault
    ⊎ ((list : Cursor) × IsListAt tree span list × WhyNoReparse list text fault)
