-- Runs of a walk: what it gives under calls in any order, and what is left after them.
use Rattle.std.specs.Prelude.{◌≡◌, List, [], ◌∷◌}
use Rattle.rowan_green.specs.declared.utility_types.WalkEvent.{WalkEvent}
use Rattle.rowan_green.specs.declared.utility_types.WalkEvent.TheVariants.{Enter, Leave}
use Rattle.rowan_table.specs.Preorder.{skip}

pub data WalkCall : Type 0 where
  Take : WalkCall
  Skip : WalkCall

-- the events that these calls give
abbrev pub output_of : {A : Type 0} → List WalkCall → List (WalkEvent A) → List (WalkEvent A)
output_of [] es = []
output_of (Take ∷ calls) [] = output_of calls []
output_of (Take ∷ calls) (e ∷ es) = e ∷ output_of calls es
output_of (Skip ∷ calls) es = output_of calls (skip es)

-- the events that are left after these calls
abbrev pub rest_after : {A : Type 0} → List WalkCall → List (WalkEvent A) → List (WalkEvent A)
rest_after [] es = es
rest_after (Take ∷ calls) [] = rest_after calls []
rest_after (Take ∷ calls) (e ∷ es) = rest_after calls es
rest_after (Skip ∷ calls) es = rest_after calls (skip es)

-- The events leave all that they enter, and these before: each Leave is of what was entered last of
-- all that is not left yet, and at the end nothing is still to be left.
abbrev pub LeavesAll : {A : Type 0} → List (WalkEvent A) → List A → Type 0
LeavesAll [] [] = Unit {0}
LeavesAll [] (x ∷ xs) = ⊥
LeavesAll (Enter x ∷ es) xs = LeavesAll es (x ∷ xs)
LeavesAll (Leave y ∷ es) [] = ⊥
LeavesAll (Leave y ∷ es) (x ∷ xs) = (y ≡ x) × LeavesAll es xs
