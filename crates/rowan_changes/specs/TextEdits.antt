-- What editing gave, as a whole; and its edits as edits of the text.
use Rattle.std.specs.Prelude.{◌≡◌, List, [], ◌∷◌}
use Rattle.std.specs.Prelude.{string_bytes}
use Rattle.rowan_green.specs.declared.utility_types.NodeOrToken.TheVariants.{Node}
use Rattle.rowan_green.specs.Term.{NodeTerm, Term, joined_text}
use Rattle.rowan_changes.specs.declared.changes.Edited.{Edited}
use Rattle.rowan_changes.specs.declared.edited.TextEdit.{TextEdit}
use Rattle.rowan_changes.specs.Changes.{range_of, changes_of}
use Rattle.rowan_changes.specs.Edit.{Edit, edited}
use Rattle.rowan_changes.specs.Plan.{AreInOrder}
use Rattle.rowan_changes.specs.Sites.{sites_of}

-- these edits of a tree gave the new tree, the changes and the sites
pub record IsEdited (root : NodeTerm) (es : List Edit) (e : Edited) : Type 0 where
  pub order : AreInOrder root es
  pub green : Node e.green ≡ edited (Node root) es
  pub changes : e.changes ≡ changes_of (Node root) es
  pub sites : e.sites ≡ record { root = root; sites = sites_of es }

-- each edit as one of the text: its range in the old text, and the text of its new elements
pub record IsTextEdit (t : Term) (e : Edit) (x : TextEdit) : Type 0 where
  pub range : x.range ≡ range_of t e
  pub text : string_bytes x.text ≡ joined_text e.new

abbrev pub AreTextEdits : Term → List Edit → List TextEdit → Type 0
AreTextEdits t [] [] = Unit {0}
AreTextEdits t [] (x ∷ xs) = ⊥
AreTextEdits t (e ∷ es) [] = ⊥
AreTextEdits t (e ∷ es) (x ∷ xs) = IsTextEdit t e x × AreTextEdits t es xs
