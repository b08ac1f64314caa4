-- Where edits of a tree are made, and where its elements are afterwards. Of what an edit puts there
-- only the number of elements matters here.
use Rattle.std.specs.Prelude.{◌≡◌, ℕ, ◌+◌, ◌&&◌, Bool, false, not, nat_lt, nat_le, nat_eq, if◌then◌else◌, List}
use Rattle.std.specs.Prelude.{[], ◌∷◌, ◌++◌, Option, Some, None, Vec, map, length, take}
use Rattle.std.specs.Prelude.{slice_get}
use Rattle.std.specs.List.{list_any}
use Rattle.std.specs.Option.{is_some}
use Rattle.rowan_green.specs.declared.utility_types.NodeOrToken.TheVariants.{Node}
use Rattle.rowan_terms.specs.Path.{Path, subterm}
use Rattle.rowan_green.specs.Term.{NodeTerm}
use Rattle.rowan_changes.specs.Edit.{Edit}
use Rattle.rowan_changes.specs.Moved.{moved_path}

-- the children of the node at a path from the index `start` on and before the index `end`, and how
-- many elements take their place
pub record Site : Type 0 where
  pub parent : Path
  pub start : ℕ
  pub end : ℕ
  pub count : ℕ

abbrev pub site_of : Edit → Site
site_of e = record { parent = e.parent; start = e.start; end = e.end; count = length e.new }

abbrev pub sites_of : List Edit → List Site
sites_of es = map site_of es

-- a tree as it was, and the sites of its edits in the order of their places
pub record EditedPlaces : Type 0 where
  pub root : NodeTerm
  pub sites : List Site

-- where a site begins
abbrev pub site_place : Site → Path
site_place s = s.parent ++ s.start ∷ []

-- whether the element at a path is one of the children from `start` to `end` of the node at
-- `parent`, or stands in one of them
abbrev pub is_among : Path → ℕ → ℕ → Path → Bool
is_among parent start end [] = false
is_among [] start end (k ∷ p) = nat_le start k && nat_lt k end
is_among (i ∷ parent) start end (k ∷ p) = nat_eq i k && is_among parent start end p

-- whether an edit takes away what stands at a path, or something around it
abbrev pub is_taken_at : Path → Site → Bool
is_taken_at p s = is_among s.parent s.start s.end p

-- where the edits move it, one after the other: from the last to the first, as they are made
abbrev pub moved_over : List Site → Path → Path
moved_over [] p = p
moved_over (s ∷ ss) p = moved_path s.parent s.start s.end s.count (moved_over ss p)

-- where the element at a path is afterwards: nowhere, if there is none, or if an edit takes it
-- away, or something around it
abbrev pub path_after : EditedPlaces → Path → Option Path
path_after places p =
    if is_some (subterm (Node places.root) p) && not (list_any (is_taken_at p) places.sites)
    then Some (moved_over places.sites p) else None

-- the elements that the n-th edit puts there are the children from `start` on and before `end` of
-- the node at a path of the new tree: that is where the edit begins, moved by those before it
pub record ArePutAt (sites : List Site) (n : ℕ) (parent : Path) (start end : ℕ) : Type 0 where
  pub site : Site
  pub is : slice_get sites n ≡ Some site
  pub from : parent ++ start ∷ [] ≡ moved_over (take n sites) (site_place site)
  pub to : end ≡ start + site.count

-- the path in a `Vec`, if there is one
abbrev pub items_in : {Z : Type 0} → Option (Vec ℕ Z) → Option Path
items_in None = None
items_in (Some v) = Some v.items
