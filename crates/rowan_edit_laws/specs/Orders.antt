-- Edits that each put one term in the place of one child, as a replacement at the child's path
-- does.
use Rattle.std.specs.Prelude.{◌≡◌, ◌+◌, List, [], ◌∷◌}
use Rattle.rowan_terms.specs.Replacements.{Replacement}
use Rattle.rowan_changes.specs.Edit.{Edit, place}

pub record IsReplacement (e : Edit) (r : Replacement) : Type 0 where
  pub path : r.path ≡ place e
  pub one : e.end ≡ e.start + 1
  pub new : e.new ≡ r.new ∷ []

-- one after the other, each of these edits is one of these replacements
abbrev pub AreReplacements : List Edit → List Replacement → Type 0
AreReplacements [] [] = Unit {0}
AreReplacements [] (r ∷ rs) = ⊥
AreReplacements (e ∷ es) [] = ⊥
AreReplacements (e ∷ es) (r ∷ rs) = IsReplacement e r × AreReplacements es rs
