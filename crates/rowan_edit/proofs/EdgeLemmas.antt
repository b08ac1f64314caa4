-- Edits at an edge of a child, from those of the children of its parent; and which tree they are of.
use Rattle.std.proofs.Common.{◌≡◌, ℕ, ◌+◌, List, Option, Some, refl, ◌∙◌, ap, subst}
use Rattle.rowan_green.specs.declared.utility_types.NodeOrToken.TheVariants.{Node}
use Rattle.rowan_terms.specs.Path.{Path}
use Rattle.rowan_green.specs.Term.{NodeTerm, Term}
use Rattle.rowan_table.specs.Cursor.{Cursor, StandsAt, index}
use Rattle.rowan_table.specs.Moves.{parent, tree_top}
use Rattle.rowan_changes.specs.declared.refusal.Refusal.{Refusal}
use Rattle.rowan_changes.specs.declared.refusal.Refusal.TheVariants.{Conflict, NotFound, Root}
use Rattle.rowan_changes.specs.declared.refusal.Refusal.TheVariants.{OtherTree, Memory}
use Rattle.rowan_edit.specs.declared.syntax_editor.Edge.{Edge}
use Rattle.rowan_edit.specs.declared.syntax_editor.Edge.TheVariants.{Start, Whole, End}
use Rattle.rowan_edit.specs.ArrangedCursors.{WhyNotTaken, WhyNotTakenAt}
use Rattle.rowan_edit.specs.Arrangements.{ArrangedPlan, with_edit, WhyRefused}
use Rattle.rowan_edit.specs.Cursors.{AtChild}
use Rattle.rowan_edit.specs.Edges.{at_edge, range_edit, IsAtEdge}
use Rattle.rowan_changes.specs.Edit.{Edit}
use Rattle.rowan_edit.proofs.EditorLemmas.{at-child}

pub edge-edit : (edge : Edge) (i s e : ℕ) (new : List Term) (p : Path) → IsAtEdge edge i s e
    → range_edit p new s e ≡ at_edge edge new p i
edge-edit Start i s e new p h =
    ap (λ x. range_edit p new x e) h.0 ∙ ap (λ y. range_edit p new i y) h.1
edge-edit Whole i s e new p h =
    ap (λ x. range_edit p new x e) h.0 ∙ ap (λ y. range_edit p new i y) h.1
edge-edit End i s e new p h =
    ap (λ x. range_edit p new x e) h.0 ∙ ap (λ y. range_edit p new (i + 1) y) h.1

-- why an edit of a node of the same tree is not taken
pub why-in : (plan : ArrangedPlan) (c : Cursor) (e : Edit) (r : Refusal) → c.root ≡ plan.root
    → WhyRefused plan e r → WhyNotTaken plan c e r
why-in plan c e Conflict own w = (own, w)
why-in plan c e NotFound own w = (own, w)
why-in plan c e Root own w = w
why-in plan c e OtherTree own w = absurd w
why-in plan c e Memory own w = tt

why-at : (plan : ArrangedPlan) (c d : Cursor) (i : ℕ) (edit : Path → ℕ → Edit) (r : Refusal)
    → c.root ≡ plan.root → parent c ≡ Some d → i ≡ index c → WhyRefused plan (edit d.path i) r
    → WhyNotTakenAt plan c edit r
why-at plan c d i edit Conflict own h e w =
    (own, at-child c d i (λ p j. WhyRefused plan (edit p j) Conflict) h e w)
why-at plan c d i edit NotFound own h e w =
    (own, at-child c d i (λ p j. WhyRefused plan (edit p j) NotFound) h e w)
why-at plan c d i edit Root own h e w = absurd w
why-at plan c d i edit OtherTree own h e w = absurd w
why-at plan c d i edit Memory own h e w = tt

module _ (c d : Cursor) (edge : Edge) (s e : ℕ) (new : List Term) (up : parent c ≡ Some d)
    (range : IsAtEdge edge (index c) s e) where
  pub edited-at-edge : (old plan : ArrangedPlan) → plan ≡ with_edit old (range_edit d.path new s e)
      → AtChild c (λ p i. plan ≡ with_edit old (at_edge edge new p i))
  edited-at-edge old plan h =
      at-child c d (index c) (λ p i. plan ≡ with_edit old (at_edge edge new p i)) up refl
      (h ∙ ap (with_edit old) (edge-edit edge (index c) s e new d.path range))

  pub why-at-edge : (old : ArrangedPlan) (r : Refusal) → c.root ≡ old.root
      → WhyRefused old (range_edit d.path new s e) r → WhyNotTakenAt old c (at_edge edge new) r
  why-at-edge old r own h =
      why-at old c d (index c) (at_edge edge new) r own up refl
      (subst (λ x. WhyRefused old x r) (edge-edit edge (index c) s e new d.path range) h)
