-- Why a call is refused that puts elements into a plan, or makes them.
use Rattle.std.specs.Prelude.{◌≡◌}
use Rattle.rowan_green.specs.declared.fault.Fault.{Fault}
use Rattle.rowan_green.specs.declared.fault.Fault.TheVariants.{Memory}
use Rattle.rowan_changes.specs.declared.edit_error.EditError.{EditError}
use Rattle.rowan_changes.specs.declared.edit_error.EditError.TheVariants.{Refused, Failed}
use Rattle.rowan_changes.specs.declared.edit_error.EditError.TheVariants.{TextHasErrors, NoSuchNode}
use Rattle.rowan_changes.specs.declared.refusal.Refusal.{Refusal}

-- the edit is refused for one of these reasons, or what it needs fails for one of those
abbrev pub IsRefused : (Refusal → Type 0) → (Fault → Type 0) → EditError → Type 0
IsRefused refusals faults (Refused r) = refusals r
IsRefused refusals faults (Failed f) = faults f
IsRefused refusals faults TextHasErrors = ⊥
IsRefused refusals faults NoSuchNode = ⊥

-- the edit is refused for one of these reasons, or an allocation failed
abbrev pub IsRefusedFor : (Refusal → Type 0) → EditError → Type 0
IsRefusedFor refusals = IsRefused refusals (λ f. f ≡ Memory)

-- what is to be made fails for one of these reasons
abbrev pub IsFailure : (Fault → Type 0) → EditError → Type 0
IsFailure faults = IsRefused (λ _. ⊥) faults
