use Rattle.std.proofs.Common.{ℕ, ◌↔◌, IsTrue, List, Option, Some, None, refl, sym, subst}
use Rattle.std.specs.Prelude.{is_some}
use Rattle.std.proofs.lemmas.Bool.{false≢true}
use Rattle.rowan_cursor.specs.RefTexts.{text_slice}
use Rattle.rowan_table.specs.SyntaxText.{slice_text, HasChar, FindsChar}
use Rattle.rowan_cursor.proofs.syntax_text.text_ref.SyntaxTextRef.contains_char.Goals as goal

contained : (text : List ℕ) (c : ℕ) (found : Option ℕ) → FindsChar text c found
    → IsTrue (is_some found) ↔ ((i : ℕ) × HasChar text i c)
contained text c None h = (λ e. absurd (false≢true e), λ i. absurd (h.none i.0 i.1))
contained text c (Some i) h = (λ e. (i, h.here), λ i. refl)

pub returns : goal.returns
returns c =
    let text = slice_text (text_slice c.args.self.now) in
    subst (λ b. IsTrue b ↔ ((i : ℕ) × HasChar text i c.args.c)) (sym c.is_some.ensures)
    (contained text c.args.c c.find_char.result c.find_char.ensures)
