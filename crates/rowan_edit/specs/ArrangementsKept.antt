-- The arrangements that an editor keeps, and edits and arrangements on their way to plain edits.
use Rattle.std.specs.Prelude.{◌≡◌, ℕ, true, false, List, [], ◌∷◌, ◌++◌, map, reverse, Vec, Some, None}
use Rattle.std.specs.Prelude.{length, Bool, ◌&&◌, not}
use Rattle.std.specs.Cmp.Lexicographic.{slice_cmp}
use Rattle.std.specs.List.{AllByRecursion, Contains}
use Rattle.std.specs.Ordering.{nat_cmp, is_le}
use Rattle.rowan_green.specs.declared.utility_types.NodeOrToken.TheVariants.{Node}
use Rattle.rowan_terms.specs.Path.{Path, subterm}
use Rattle.rowan_green.specs.Term.{NodeTerm, node_children}
use Rattle.rowan_changes.specs.declared.edit.Splice.{Splice}
use Rattle.rowan_edit.specs.declared.pieces.Piece.{Piece}
use Rattle.rowan_edit.specs.declared.plain_edits.Halves.{Halves}
use Rattle.rowan_edit.specs.declared.plain_edits.Parted.{Parted}
use Rattle.rowan_edit.specs.Arrangements.{Arrangement, IsArrangementOf, AreFree, edits_outside, gap}
use Rattle.rowan_changes.specs.Edit.{Edit, ends_before}
use Rattle.rowan_changes.specs.GreenEditor.{edit_of, edits_of, AreListed}
use Rattle.rowan_edit.specs.Inside.{rest_behind, edits_inside}
use Rattle.rowan_changes.specs.Plan.{AreInOrder}

abbrev pub arrangement_in : {Z Y : Type 0} → Vec ℕ Z × Vec Piece Y → Arrangement
arrangement_in e = record { path = e.0.items; pieces = e.1.items }

abbrev pub arrangements_in : {Z Y : Type 0} → List (Vec ℕ Z × Vec Piece Y) → List Arrangement
arrangements_in es = map arrangement_in es

-- arrangements of a tree which no edit excludes
abbrev pub AreClear : NodeTerm → List Edit → List Arrangement → Type 0
AreClear root es rs =
    AllByRecursion (λ a. IsArrangementOf root a × AreFree es a.path) rs

-- one of these is from a path on and before another one, and none is
abbrev pub is_between : Path → Path → Path → Bool
is_between first past p = is_le (slice_cmp nat_cmp first p) && not (is_le (slice_cmp nat_cmp past p))

abbrev pub HasBetween : Path → Path → List Arrangement → Type 0
HasBetween first past rs =
    (a : Arrangement) × Contains rs a × (is_between first past a.path ≡ true)

abbrev pub HasNoneBetween : Path → Path → List Arrangement → Type 0
HasNoneBetween first past rs = AllByRecursion (λ a. is_between first past a.path ≡ false) rs

-- a node with so many children stands at a path
pub record HasChildren (root : NodeTerm) (p : Path) (count : ℕ) : Type 0 where
  pub node : NodeTerm
  pub stands : subterm (Node root) p ≡ Some (Node node)
  pub count_is : count ≡ length (node_children node)

-- all edits, those in front and then those behind, of which the first one stands last
abbrev pub splices_in : Halves → List Splice
splices_in h = h.front.items ++ reverse h.behind.items

-- splices of a tree, none of which excludes the arrangement of a node, whose first child comes
-- before those behind
pub record AreReady (root : NodeTerm) (h : Halves) (p : Path) : Type 0 where
  pub listed : AreListed root (splices_in h)
  pub free : AreFree (edits_of (splices_in h)) p
  pub behind : AllByRecursion (λ e. ends_before (gap p) e ≡ true)
      (edits_of (reverse h.behind.items))

-- edits go from the front to those behind up to one that ends before the first child of a node
pub record IsAt (p : Path) (old new : Halves) : Type 0 where
  pub gone : List Splice
  pub front : old.front.items ≡ new.front.items ++ gone
  pub behind : reverse new.behind.items ≡ gone ++ reverse old.behind.items
  pub late : AllByRecursion (λ s. ends_before (edit_of s) (gap p) ≡ false) gone
  pub early : (s : Splice) (rest : List Splice) → new.front.items ≡ rest ++ s ∷ []
      → ends_before (edit_of s) (gap p) ≡ true

-- the first ones of those behind are inside of the node at a path, up to one that is not
pub record IsParted (p : Path) (old : Halves) (new : Parted) : Type 0 where
  pub taken : List Splice
  pub front : new.others.front.items ≡ old.front.items
  pub behind : reverse old.behind.items ≡ taken ++ reverse new.others.behind.items
  pub inside : edits_of new.inside.items ≡ edits_inside p (edits_of taken)
  pub all : edits_outside p (edits_of taken) ≡ []
  pub next : (s : Splice) (rest : List Splice) → new.others.behind.items ≡ rest ++ s ∷ []
      → rest_behind p s.parent.items ≡ None

-- edits of the node at a path, with paths from that node on
pub record AreEditsAt (root : NodeTerm) (p : Path) (es : List Edit) : Type 0 where
  pub node : NodeTerm
  pub stands : subterm (Node root) p ≡ Some (Node node)
  pub order : AreInOrder node es
