-- What is left of a walk is stored as the list of its events, or as the number of the refusal.
use Rattle.std.specs.Prelude.{◌≡◌, ◌⊎◌, refl}
use Rattle.std.specs.Coded.{Coded, code_by, coded_list, coded_result, coded⊎}
use Rattle.std.proofs.Common.{inl, inr}
use Rattle.rowan_green.specs.declared.utility_types.WalkEvent.{WalkEvent}
use Rattle.rowan_green.specs.declared.utility_types.WalkEvent.TheVariants.{Enter, Leave}
use Rattle.rowan_table.specs.Cursor.{Cursor}
use Rattle.rowan_cursor.specs.CursorCode.{coded_cursor}
use Rattle.rowan_table.specs.Moves.{Element}
use Rattle.rowan_table.specs.Yields.{Rest}
use Rattle.rowan_cursor.specs.YieldsCode.{coded_element, coded_fault}

abbrev event_cases : {A : Type 0} → WalkEvent A → A ⊎ A
event_cases (Enter x) = inl x
event_cases (Leave x) = inr x

abbrev event_from : {A : Type 0} → A ⊎ A → WalkEvent A
event_from (inl x) = Enter x
event_from (inr x) = Leave x

pub event_from-cases : {A : Type 0} (e : WalkEvent A) → event_from (event_cases e) ≡ e
event_from-cases (Enter x) = refl
event_from-cases (Leave x) = refl

abbrev coded_event : {A : Type 0} → Coded A → Coded (WalkEvent A)
coded_event {A} c = code_by (A ⊎ A) (coded⊎ c c) event_cases event_from event_from-cases

abbrev pub coded_rest_of_node_events : Coded (Rest (WalkEvent Cursor))
coded_rest_of_node_events = coded_result (coded_list (coded_event coded_cursor)) coded_fault

abbrev pub coded_rest_of_events : Coded (Rest (WalkEvent Element))
coded_rest_of_events = coded_result (coded_list (coded_event coded_element)) coded_fault
