-- Edits in a list, as the pass over a tree takes them.
use Rattle.std.specs.Prelude.{◌≡◌, ◌≤◌, List, [], ◌∷◌, map}
use Rattle.std.specs.List.{AllByRecursion}
use Rattle.rowan_green.specs.declared.utility_types.NodeOrToken.TheVariants.{Node}
use Rattle.rowan_green.specs.Fits.{byte_limit}
use Rattle.rowan_green.specs.Term.{NodeTerm, sum_of_lens}
use Rattle.rowan_changes.specs.declared.changes.Change.{Change}
use Rattle.rowan_changes.specs.declared.edit.Splice.{Splice}
use Rattle.rowan_changes.specs.Changes.{range_of}
use Rattle.rowan_changes.specs.Edit.{Edit}
use Rattle.rowan_changes.specs.Plan.{AreInOrder}

abbrev pub edit_of : Splice → Edit
edit_of s = record { parent = s.parent.items; start = s.start; end = s.end; new = s.new.items }

abbrev pub edits_of : List Splice → List Edit
edits_of ss = map edit_of ss

-- each edit knows its range
abbrev pub HaveRanges : NodeTerm → List Splice → Type 0
HaveRanges root edits = AllByRecursion (λ s. s.range ≡ range_of (Node root) (edit_of s)) edits

-- splices of a tree in a list, in order and with their ranges
pub record AreListed (root : NodeTerm) (edits : List Splice) : Type 0 where
  pub order : AreInOrder root (edits_of edits)
  pub ranges : HaveRanges root edits

-- the change of an edit, if its new text is within the limit
pub record IsChangeOf (s : Splice) (c : Change) : Type 0 where
  pub range : c.range ≡ s.range
  pub len : sum_of_lens s.new.items ≤ byte_limit → c.new_len ≡ sum_of_lens s.new.items

abbrev pub ArePairs : List Splice → List Change → Type 0
ArePairs [] [] = Unit {0}
ArePairs [] (c ∷ cs) = ⊥
ArePairs (s ∷ ss) [] = ⊥
ArePairs (s ∷ ss) (c ∷ cs) = IsChangeOf s c × ArePairs ss cs
