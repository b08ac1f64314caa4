-- Plans: a tree, and edits of it in the order of their places, each of which ends before the next
-- begins.
use Rattle.std.specs.Prelude.{◌≡◌, ◌≤◌, true, if◌then◌else◌, List, [], ◌∷◌, Some, length}
use Rattle.std.specs.List.{AllByRecursion, Contains}
use Rattle.rowan_green.specs.declared.utility_types.NodeOrToken.TheVariants.{Node}
use Rattle.rowan_terms.specs.Path.{subterm}
use Rattle.rowan_green.specs.Term.{NodeTerm, node_children}
use Rattle.rowan_changes.specs.declared.refusal.Refusal.{Refusal}
use Rattle.rowan_changes.specs.declared.refusal.Refusal.TheVariants.{Conflict, NotFound, Root}
use Rattle.rowan_changes.specs.declared.refusal.Refusal.TheVariants.{OtherTree, Memory}
use Rattle.rowan_changes.specs.Edit.{Edit, ends_before, conflicts}

pub record Plan : Type 0 where
  pub root : NodeTerm
  pub edits : List Edit

-- the edit is one of a node of the tree, which has the children
pub record IsOf (root : NodeTerm) (e : Edit) : Type 0 where
  pub node : NodeTerm
  pub stands : subterm (Node root) e.parent ≡ Some (Node node)
  pub order : e.start ≤ e.end
  pub within : e.end ≤ length (node_children node)

-- each edit ends before those behind it begin
abbrev pub EndInTurn : List Edit → Type 0
EndInTurn [] = Unit {0}
EndInTurn (e ∷ es) =
    (e.start ≤ e.end) × AllByRecursion (λ f. ends_before e f ≡ true) es × EndInTurn es

-- the edits are of the tree, and each ends before those behind it begin
pub record AreInOrder (root : NodeTerm) (edits : List Edit) : Type 0 where
  pub of_tree : AllByRecursion (IsOf root) edits
  pub in_turn : EndInTurn edits

-- one more edit comes behind those that end before it begins
abbrev pub added : List Edit → Edit → List Edit
added [] e = e ∷ []
added (f ∷ fs) e = if ends_before f e then f ∷ added fs e else e ∷ f ∷ fs

abbrev pub with_edit : Plan → Edit → Plan
with_edit plan e = record { root = plan.root; edits = added plan.edits e }

-- one of these edits conflicts with another
abbrev pub HasConflict : List Edit → Edit → Type 0
HasConflict es e = (f : Edit) × Contains es f × (conflicts f e ≡ true)

-- why an edit is not taken
abbrev pub WhyRefused : Plan → Edit → Refusal → Type 0
WhyRefused plan e Conflict = HasConflict plan.edits e
WhyRefused plan e NotFound = ¬ IsOf plan.root e
WhyRefused plan e Root = ⊥
WhyRefused plan e OtherTree = ⊥
WhyRefused plan e Memory = Unit {0}
