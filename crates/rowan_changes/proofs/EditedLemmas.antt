-- The edits of the text, and the text of what an edit puts in.
use Rattle.std.proofs.Common.{◌≡◌, ℕ, zero, suc, ◌+◌, ◌-◌, List, [], ◌∷◌, ◌++◌, take, Option}
use Rattle.std.proofs.Common.{Some, refl, sym, ◌∙◌, ap, subst, arith}
use Rattle.std.specs.Prelude.{slice_get}
use Rattle.rowan_green.specs.declared.utility_types.NodeOrToken.TheVariants.{Node}
use Rattle.rowan_terms.specs.Path.{Path, subterm}
use Rattle.rowan_green.specs.Term.{NodeTerm, Term, joined_text}
use Rattle.rowan_table.specs.Moves.{children_of}
use Rattle.rowan_changes.specs.declared.changes.Edited.{Edited}
use Rattle.rowan_changes.specs.declared.changes.Change.{Change}
use Rattle.rowan_changes.specs.declared.edited.TextEdit.{TextEdit}
use Rattle.rowan_changes.specs.Changes.{change_of, changes_of}
use Rattle.rowan_changes.specs.Edit.{Edit, edited}
use Rattle.rowan_changes.specs.Sites.{EditedPlaces, sites_of, ArePutAt}
use Rattle.rowan_changes.specs.TextEdits.{IsEdited, IsTextEdit, AreTextEdits}
use Rattle.rowan_changes.proofs.ElementLemmas.{part}
use Rattle.rowan_changes.proofs.OpenNodeLemmas.{take-more}
use Rattle.rowan_changes.proofs.PlacedLaw.{new-children}

-- ---- the edits of the text, one after the other

text-append : (t : Term) (es : List Edit) (xs : List TextEdit) (e : Edit) (x : TextEdit)
    → AreTextEdits t es xs → IsTextEdit t e x → AreTextEdits t (es ++ e ∷ []) (xs ++ x ∷ [])
text-append t [] [] e x h g = (g, tt)
text-append t [] (y ∷ xs) e x h g = absurd h
text-append t (d ∷ es) [] e x h g = absurd h
text-append t (d ∷ es) (y ∷ xs) e x h g = (h.0, text-append t es xs e x h.1 g)

-- the edit of a change
pub edit-at : (t : Term) (es : List Edit) (k : ℕ) (c : Change)
    → slice_get (changes_of t es) k ≡ Some c
    → (e : Edit) × (slice_get es k ≡ Some e) × (change_of t e ≡ c)
edit-at t [] k c h = absurd cc
edit-at t (e ∷ es) zero c h = let same : change_of t e ≡ c = cc in (e, refl, same)
edit-at t (e ∷ es) (suc k) c h = edit-at t es k c h

pub text-next : (t : Term) (es : List Edit) (k : ℕ) (e : Edit) (xs now : List TextEdit)
    (x : TextEdit) → slice_get es k ≡ Some e → AreTextEdits t (take k es) xs → IsTextEdit t e x
    → now ≡ xs ++ x ∷ [] → AreTextEdits t (take (k + 1) es) now
text-next t es k e xs now x at h g is =
    let next : k + 1 ≡ suc k = omega arith in
    subst (AreTextEdits t (take (k + 1) es)) (sym is)
    (subst (λ ds. AreTextEdits t ds (xs ++ x ∷ [])) (sym (ap (λ n. take n es) next
    ∙ take-more es k e at)) (text-append t (take k es) xs e x h g))

-- ---- the text of what an edit puts in

pub part-none : (s k : ℕ) → joined_text (part s k []) ≡ []
part-none zero zero = refl
part-none zero (suc k) = refl
part-none (suc s) zero = refl
part-none (suc s) (suc k) = refl

pub text-put : (root : NodeTerm) (es : List Edit) (n : ℕ) (e : Edit) (d : Edited) (parent : Path)
    (start end : ℕ) (o : Option Term) → IsEdited root es d → slice_get es n ≡ Some e
    → ArePutAt d.sites.sites n parent start end → subterm (Node d.green) parent ≡ o
    → joined_text (part start (end - start) (children_of o)) ≡ joined_text e.new
text-put root es n e d parent start end o h at put there =
    let places : ArePutAt (sites_of es) n parent start end =
    subst (λ (a : EditedPlaces). ArePutAt a.sites n parent start end) h.sites put in
    let found : subterm (edited (Node root) es) parent ≡ o =
    ap (λ t. subterm t parent) (sym h.green) ∙ there in
    ap (λ x. joined_text (part start (end - start) (children_of x))) (sym found)
    ∙ ap joined_text (new-children root es n e parent start end h.order at places)
