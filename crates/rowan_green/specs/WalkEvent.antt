-- Events of a walk: an element is entered before what is below it, and left after.
use Rattle.rowan_green.specs.declared.utility_types.WalkEvent.{WalkEvent}
use Rattle.rowan_green.specs.declared.utility_types.WalkEvent.TheVariants.{Enter, Leave}

-- what is entered or left
abbrev pub event_value : {T : Type 0} → WalkEvent T → T
event_value (Enter x) = x
event_value (Leave x) = x

-- both enter, or both leave, and R holds of the two values
abbrev pub SameEvent : {T U : Type 0} → (T → U → Type 0) → WalkEvent T → WalkEvent U → Type 0
SameEvent R (Enter x) (Enter y) = R x y
SameEvent R (Leave x) (Leave y) = R x y
SameEvent R _ _ = ⊥
