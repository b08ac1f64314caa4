-- The edits that an editor keeps, in the order of their places.
use Rattle.std.specs.Prelude.{◌≡◌, ◌≢◌, ℕ, ◌<◌, ◌≤◌, Bool, true, false, List, [], ◌∷◌, ◌++◌, length, map}
use Rattle.std.specs.List.{AllByRecursion, Contains}
use Rattle.std.specs.Cmp.Lexicographic.{slice_cmp}
use Rattle.std.specs.Ordering.{nat_cmp, on, then_cmp}
use Rattle.std.specs.declared.cmp.Ordering.{Ordering}
use Rattle.std.specs.declared.cmp.Ordering.TheVariants.{Less, Greater}
use Rattle.rowan_green.specs.declared.utility_types.NodeOrToken.TheVariants.{Node}
use Rattle.rowan_terms.specs.Path.{Path}
use Rattle.rowan_green.specs.Term.{NodeTerm}
use Rattle.rowan_table.specs.Cursor.{last_index}
use Rattle.rowan_changes.specs.declared.edit.Splice.{Splice}
use Rattle.rowan_edit.specs.declared.ranked.Body.{Body}
use Rattle.rowan_edit.specs.declared.ranked.Rank.{Rank}
use Rattle.rowan_changes.specs.Changes.{range_of}
use Rattle.rowan_changes.specs.Edit.{Edit, lies_before}
use Rattle.rowan_changes.specs.GreenEditor.{edit_of}
use Rattle.rowan_changes.specs.Plan.{IsOf, AreInOrder, EndInTurn}

-- a path without its last index
abbrev pub without_last : Path → Path
without_last [] = []
without_last (i ∷ []) = []
without_last (i ∷ j ∷ p) = i ∷ without_last (j ∷ p)

-- those that begin earlier come first, then those that end earlier, then those added earlier
abbrev pub rank_cmp : Rank → Rank → Ordering
rank_cmp =
    then_cmp (on (λ (r : Rank). r.place.items) (slice_cmp nat_cmp))
    (then_cmp (on (λ (r : Rank). r.end) nat_cmp) (on (λ (r : Rank). r.count) nat_cmp))

abbrev pub edit_in : Rank × Body → Edit
edit_in e =
    record {
      parent = without_last e.0.place.items;
      start = last_index e.0.place.items;
      end = e.0.end;
      new = e.1.new.items;
    }

abbrev pub edits_in : List (Rank × Body) → List Edit
edits_in es = map edit_in es

-- the edit of the first rank ends before that of the second begins
abbrev pub ends_first : Rank → Rank → Bool
ends_first r s = lies_before (without_last r.place.items) r.end s.place.items

-- a rank has a place
abbrev pub IsRanked : Rank × Body → Type 0
IsRanked e = 0 < length e.0.place.items

-- an edit begins at a place, and none does
abbrev pub HasEditAt : List (Rank × Body) → Path → Type 0
HasEditAt es z = (e : Rank × Body) × Contains es e × (e.0.place.items ≡ z)

abbrev pub HasNoEditAt : List (Rank × Body) → Path → Type 0
HasNoEditAt es z = AllByRecursion (λ e. e.0.place.items ≢ z) es

-- a rank for one more edit, to which more edits were added before than to any of these
pub record IsNext (es : List (Rank × Body)) (r : Rank) : Type 0 where
  pub turn : EndInTurn (edits_in es)
  pub ranked : AllByRecursion IsRanked es
  pub newest : AllByRecursion (λ e. e.0.count < r.count) es
  pub place : 0 < length r.place.items
  pub order : last_index r.place.items ≤ r.end

-- the edits in front of a rank and those behind it
pub record Cut (es : List (Rank × Body)) (r : Rank) : Type 0 where
  pub front : List (Rank × Body)
  pub behind : List (Rank × Body)
  pub is : es ≡ front ++ behind
  pub greater : AllByRecursion (λ e. rank_cmp r e.0 ≡ Greater) front
  pub less : AllByRecursion (λ e. rank_cmp r e.0 ≡ Less) behind

-- no edit conflicts with one of this rank: those in front of it end before it, and it ends before
-- those behind it, which do not end before it
pub record HasRoom (es : List (Rank × Body)) (r : Rank) : Type 0 where
  pub cut : Cut es r
  pub before : AllByRecursion (λ e. ends_first e.0 r ≡ true) cut.front
  pub others : AllByRecursion (λ e. ends_first e.0 r ≡ false) cut.behind
  pub after : AllByRecursion (λ e. ends_first r e.0 ≡ true) cut.behind

-- an edit knows its range
abbrev pub HasRange : NodeTerm → Rank × Body → Type 0
HasRange root e = e.1.range ≡ range_of (Node root) (edit_in e)

-- an edit of a tree, with its range, to which so many others were added before
pub record IsEditIn (root : NodeTerm) (e : Edit) (count : ℕ) (r : Rank × Body) : Type 0 where
  pub is : edit_in r ≡ e
  pub of : IsOf root e
  pub range : HasRange root r
  pub ranked : IsRanked r
  pub count_is : r.0.count ≡ count

-- edits of a tree, as they are kept
pub record AreKept (root : NodeTerm) (es : List (Rank × Body)) : Type 0 where
  pub order : AreInOrder root (edits_in es)
  pub ranges : AllByRecursion (HasRange root) es
  pub ranked : AllByRecursion IsRanked es
  pub counted : AllByRecursion (λ e. e.0.count < length es) es

-- a splice has the edit and its range
pub record IsSpliceOf (e : Rank × Body) (s : Splice) : Type 0 where
  pub edit : edit_of s ≡ edit_in e
  pub range : s.range ≡ e.1.range

-- one after the other, these splices have these edits
abbrev pub AreSplicesOf : List (Rank × Body) → List Splice → Type 0
AreSplicesOf [] [] = Unit {0}
AreSplicesOf [] (s ∷ ss) = ⊥
AreSplicesOf (e ∷ es) [] = ⊥
AreSplicesOf (e ∷ es) (s ∷ ss) = IsSpliceOf e s × AreSplicesOf es ss
