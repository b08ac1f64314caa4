-- What is kept of edits that were made: each site, and where it begins and ends in the new tree.
use Rattle.std.specs.Prelude.{◌≡◌, ℕ, ◌+◌, ◌-◌, ◌≤◌, Bool, true, false, nat_eq, if◌then◌else◌}
use Rattle.std.specs.Prelude.{List, [], ◌∷◌, ◌++◌, Option, Some, None, map, take, slice_get}
use Rattle.std.specs.List.{AllByRecursion}
use Rattle.rowan_terms.specs.Path.{Path}
use Rattle.rowan_changes.specs.declared.edit_sites.PlacedEdit.{PlacedEdit}
use Rattle.rowan_changes.specs.Edit.{lies_before}
use Rattle.rowan_changes.specs.Sites.{Site, site_place, is_taken_at, moved_over}

abbrev pub site_in : PlacedEdit → Site
site_in e = record { parent = e.parent.items; start = e.start; end = e.end; count = e.count }

abbrev pub sites_in : List PlacedEdit → List Site
sites_in es = map site_in es

-- the site ends before the place at a path
abbrev pub EndsBefore : Path → Site → Type 0
EndsBefore p s = lies_before s.parent s.end p ≡ true

-- each site ends before those behind it begin
abbrev pub StandInTurn : List Site → Type 0
StandInTurn [] = Unit {0}
StandInTurn (s ∷ ss) =
    (s.start ≤ s.end) × AllByRecursion (λ f. EndsBefore (site_place f) s) ss × StandInTurn ss

-- whether there is an edit, and it takes away what stands at a path, or something around it
abbrev pub IsTakenBy : Option PlacedEdit → Path → Bool → Type 0
IsTakenBy None p taken = taken ≡ false
IsTakenBy (Some e) p taken = taken ≡ is_taken_at p (site_in e)

-- the edit knows where it begins in the new tree, once these are made before it, and where it ends
pub record IsPlaced (before : List Site) (e : PlacedEdit) : Type 0 where
  pub place : e.new_place.items ≡ moved_over before (site_place (site_in e))
  pub end : (p : Path) (k : ℕ) → e.new_place.items ≡ p ++ k ∷ [] → e.new_end ≡ k + e.count

pub record ArePlaced (es : List PlacedEdit) : Type 0 where
  pub turn : StandInTurn (sites_in es)
  pub each : (n : ℕ) (e : PlacedEdit) → slice_get es n ≡ Some e
      → IsPlaced (take n (sites_in es)) e

-- where an edit moves what lies behind it, if it begins at `new_place` in the new tree: as far as
-- the two paths are the same, the path is that of the new tree; then the index goes on with its own
abbrev pub carried : Path → ℕ → ℕ → Path → Path → Path
carried parent end new_end new_place [] = []
carried [] end new_end new_place (k ∷ p) = (k - end + new_end) ∷ p
carried (i ∷ parent) end new_end [] (k ∷ p) = k ∷ p
carried (i ∷ parent) end new_end (j ∷ new_place) (k ∷ p) =
    if nat_eq i k then j ∷ carried parent end new_end new_place p else (k - i + j) ∷ p
