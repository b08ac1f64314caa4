-- Pointers to nodes of an edited tree.
use Rattle.std.specs.Prelude.{◌≡◌, ◌≢◌, ◌⊎◌, ℕ, Bool, [], Option, Some, None}
use Rattle.std.specs.Option.{option_and_then}
use Rattle.rowan_green.specs.declared.fault.Fault.TheVariants.{Memory}
use Rattle.rowan_green.specs.declared.utility_types.NodeOrToken.TheVariants.{Node}
use Rattle.rowan_terms.specs.Path.{Path, subterm}
use Rattle.rowan_green.specs.Term.{NodeTerm}
use Rattle.rowan_table.specs.Cursor.{Cursor}
use Rattle.rowan_table.specs.Moves.{cursor_at, tree_top}
use Rattle.rowan.specs.Pointer.{Pointer, pointer_to, means_kind, Resolves}
use Rattle.rowan_changes.specs.declared.changes.Edited.{Edited}
use Rattle.rowan_changes.specs.declared.edit_error.EditError.{EditError}
use Rattle.rowan_changes.specs.declared.refusal.Refusal.{Refusal}
use Rattle.rowan_changes.specs.declared.refusal.Refusal.TheVariants.{Conflict, NotFound, Root}
use Rattle.rowan_changes.specs.declared.refusal.Refusal.TheVariants.{OtherTree, Memory as NoRoom}
use Rattle.rowan_changes.specs.EditErrors.{IsRefused}
use Rattle.rowan_changes.specs.Sites.{path_after}

-- a pointer resolves to what is at a cursor, among all nodes of its tree
abbrev pub LeadsTo : {K : Type 0} → (ℕ → K) → (K → K → Bool) → Cursor → Pointer K → Type 0
LeadsTo meaning same c p = Resolves (means_kind meaning same p.kind) p.range (tree_top c) (Some c)

-- the pointer to the node at a cursor, if it resolves to that one
abbrev pub IsPointerTo : {K : Type 0} → (ℕ → K) → (K → K → Bool) → Cursor → Option (Pointer K)
    → Type 0
IsPointerTo {K} meaning same c None =
    (n : NodeTerm) (p : Pointer K) → subterm (Node c.root) c.path ≡ Some (Node n)
    → pointer_to meaning c ≡ Some p → ¬ LeadsTo meaning same c p
IsPointerTo meaning same c (Some p) =
    (pointer_to meaning c ≡ Some p) × LeadsTo meaning same c p

-- the same of what stands at a path, if there is one, and else no pointer
abbrev pub IsPointerAt : {K : Type 0} → (ℕ → K) → (K → K → Bool) → NodeTerm → Option Path
    → Option (Pointer K) → Type 0
IsPointerAt meaning same root None found = found ≡ None
IsPointerAt meaning same root (Some q) found = IsPointerTo meaning same (cursor_at root q) found

-- where the node to which a pointer leads in the old tree is in the new one, if anywhere, and the
-- pointer to it there
pub record IsPointerAfter {K : Type 0} (meaning : ℕ → K) (same : K → K → Bool) (e : Edited)
    (p : Pointer K) (found : Option (Pointer K)) : Type 0 where
  pub node : Option Cursor
  pub leads : Resolves (means_kind meaning same p.kind) p.range (cursor_at e.sites.root []) node
  pub is : IsPointerAt meaning same e.green
      (option_and_then (λ (c : Cursor). path_after e.sites c.path) node) found

-- the trees are not the old one and the new one, or an allocation failed
abbrev pub IsOtherTree : Edited → NodeTerm → NodeTerm → Refusal → Type 0
IsOtherTree e old new Conflict = ⊥
IsOtherTree e old new NotFound = ⊥
IsOtherTree e old new Root = ⊥
IsOtherTree e old new OtherTree = (old ≢ e.sites.root) ⊎ (new ≢ e.green)
IsOtherTree e old new NoRoom = ⊥

abbrev pub WhyNoPointer : Edited → NodeTerm → NodeTerm → EditError → Type 0
WhyNoPointer e old new = IsRefused (IsOtherTree e old new) (λ f. f ≡ Memory)
