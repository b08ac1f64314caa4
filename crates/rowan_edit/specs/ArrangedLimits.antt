-- Why a tree with other orders of children is not made.
use Rattle.std.specs.Prelude.{◌≢◌, List, [], ◌∷◌, Option, Some, None, ◌⊎◌}
use Rattle.rowan_green.specs.declared.fault.Fault.{Fault}
use Rattle.rowan_green.specs.declared.fault.Fault.TheVariants.{Memory}
use Rattle.rowan_green.specs.declared.utility_types.NodeOrToken.TheVariants.{Node}
use Rattle.rowan_green.specs.Term.{NodeTerm, Term}
use Rattle.rowan_edit.specs.Arrangements.{Arrangement, ArrangedPlan, all_arranged, edited_at}
use Rattle.rowan_edit.specs.Arrangements.{plain_edits}
use Rattle.rowan_changes.specs.Edit.{Edit, edited}
use Rattle.rowan_edit.specs.Inside.{edits_inside}
use Rattle.rowan_changes.specs.Limits.{PassesLimitIn}

-- a node of the term, if there is one, passes this limit
abbrev pub PassesLimitOf : Option Term → Fault → Type 0
PassesLimitOf None fault = ⊥
PassesLimitOf (Some t) fault = PassesLimitIn t fault

-- a node passes this limit in one of those whose children are arranged, with the edits inside of it
-- made and before its children are arranged
abbrev pub PassesLimitBefore : NodeTerm → List Edit → List Arrangement → Fault → Type 0
PassesLimitBefore root es [] fault = ⊥
PassesLimitBefore root es (a ∷ rs) fault =
    let inside = edits_inside a.path (all_arranged root es rs) in
    PassesLimitOf (edited_at root a.path inside) fault ⊎ PassesLimitBefore root es rs fault

-- for want of memory, or since such a node passes this limit, or one of the new tree
abbrev pub WhyNotMade : ArrangedPlan → Fault → Type 0
WhyNotMade plan fault = fault ≢ Memory
    → PassesLimitBefore plan.root plan.edits plan.arrangements fault
    ⊎ PassesLimitIn (edited (Node plan.root) (plain_edits plan)) fault
