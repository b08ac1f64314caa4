-- Edits and arrangements at cursors, and why they are not taken. `Cursors` has the same of plans
-- without arrangements.
use Rattle.std.specs.Prelude.{◌≡◌, ◌≢◌, ℕ, None}
use Rattle.rowan_terms.specs.Path.{Path}
use Rattle.rowan_table.specs.Cursor.{Cursor}
use Rattle.rowan_table.specs.Moves.{parent}
use Rattle.rowan_changes.specs.declared.refusal.Refusal.{Refusal}
use Rattle.rowan_changes.specs.declared.refusal.Refusal.TheVariants.{Conflict, NotFound, Root}
use Rattle.rowan_changes.specs.declared.refusal.Refusal.TheVariants.{OtherTree, Memory}
use Rattle.rowan_edit.specs.Arrangements.{Arrangement, ArrangedPlan, WhyRefused, WhyNotArranged}
use Rattle.rowan_edit.specs.Cursors.{AtChild}
use Rattle.rowan_changes.specs.Edit.{Edit}

-- why an edit of the children of the node at a cursor is not taken
abbrev pub WhyNotTaken : ArrangedPlan → Cursor → Edit → Refusal → Type 0
WhyNotTaken plan c e OtherTree = c.root ≢ plan.root
WhyNotTaken plan c e Conflict = (c.root ≡ plan.root) × WhyRefused plan e Conflict
WhyNotTaken plan c e NotFound = (c.root ≡ plan.root) × WhyRefused plan e NotFound
WhyNotTaken plan c e Root = ⊥
WhyNotTaken plan c e Memory = Unit {0}

-- the same of an edit at the element at a cursor, which its parent's path and its index give
abbrev pub WhyNotTakenAt : ArrangedPlan → Cursor → (Path → ℕ → Edit) → Refusal → Type 0
WhyNotTakenAt plan c edit OtherTree = c.root ≢ plan.root
WhyNotTakenAt plan c edit Root = (c.root ≡ plan.root) × (parent c ≡ None)
WhyNotTakenAt plan c edit Conflict =
    (c.root ≡ plan.root) × AtChild c (λ p i. WhyRefused plan (edit p i) Conflict)
WhyNotTakenAt plan c edit NotFound =
    (c.root ≡ plan.root) × AtChild c (λ p i. WhyRefused plan (edit p i) NotFound)
WhyNotTakenAt plan c edit Memory = Unit {0}

-- why the node at a cursor does not get other children
abbrev pub WhyNotReplaced : ArrangedPlan → Cursor → Arrangement → Refusal → Type 0
WhyNotReplaced plan c a OtherTree = c.root ≢ plan.root
WhyNotReplaced plan c a Conflict = (c.root ≡ plan.root) × WhyNotArranged plan a Conflict
WhyNotReplaced plan c a NotFound = (c.root ≡ plan.root) × WhyNotArranged plan a NotFound
WhyNotReplaced plan c a Root = ⊥
WhyNotReplaced plan c a Memory = Unit {0}
