-- Edits at cursors, and why an editor of the tree of a cursor does not take one.
use Rattle.std.specs.Prelude.{◌≡◌, ◌≢◌, ℕ, None, MatchOption}
use Rattle.rowan_terms.specs.Path.{Path}
use Rattle.rowan_table.specs.Cursor.{Cursor, index}
use Rattle.rowan_table.specs.Moves.{parent}
use Rattle.rowan_changes.specs.declared.refusal.Refusal.{Refusal}
use Rattle.rowan_changes.specs.declared.refusal.Refusal.TheVariants.{Conflict, NotFound, Root}
use Rattle.rowan_changes.specs.declared.refusal.Refusal.TheVariants.{OtherTree, Memory}
use Rattle.rowan_changes.specs.Edit.{Edit}
use Rattle.rowan_changes.specs.Plan.{Plan, WhyRefused}

-- the cursor stands at a child, and P holds of the path of its parent and of its index
abbrev pub AtChild : Cursor → (Path → ℕ → Type 0) → Type 0
AtChild c P = MatchOption (parent c) ⊥ (λ d. P d.path (index c))

-- why an edit of the children of the node at a cursor is not taken: the cursor is one of another
-- tree, or it is one of this tree and the plan does not take the edit
abbrev pub WhyNotTaken : Plan → Cursor → Edit → Refusal → Type 0
WhyNotTaken plan c e OtherTree = c.root ≢ plan.root
WhyNotTaken plan c e Conflict = (c.root ≡ plan.root) × WhyRefused plan e Conflict
WhyNotTaken plan c e NotFound = (c.root ≡ plan.root) × WhyRefused plan e NotFound
WhyNotTaken plan c e Root = ⊥
WhyNotTaken plan c e Memory = Unit {0}

-- the same of an edit at the element at a cursor, which its parent's path and its index give
abbrev pub WhyNotTakenAt : Plan → Cursor → (Path → ℕ → Edit) → Refusal → Type 0
WhyNotTakenAt plan c edit OtherTree = c.root ≢ plan.root
WhyNotTakenAt plan c edit Root = (c.root ≡ plan.root) × (parent c ≡ None)
WhyNotTakenAt plan c edit Conflict =
    (c.root ≡ plan.root) × AtChild c (λ p i. WhyRefused plan (edit p i) Conflict)
WhyNotTakenAt plan c edit NotFound =
    (c.root ≡ plan.root) × AtChild c (λ p i. WhyRefused plan (edit p i) NotFound)
WhyNotTakenAt plan c edit Memory = Unit {0}
