-- The report of a call that finds an element.
use Rattle.std.specs.Prelude.{Result, Ok, Err, Option, Some, None}
use Rattle.rowan_green.specs.declared.fault.Fault.{Fault}
use Rattle.rowan_table.specs.Moves.{Element}
use Rattle.rowan_script.specs.declared.script.steps.Report.{Report}
use Rattle.rowan_script.specs.declared.script.steps.Report.TheVariants.{Moved, Nowhere, Refused}

-- moved to what the call found, nowhere where it found nothing, or refused with its fault
abbrev pub report_of : {A : Type 0} → (A → Element) → Result (Option A) Fault → Report
report_of element (Ok (Some found)) = Moved (element found)
report_of element (Ok None) = Nowhere
report_of element (Err fault) = Refused fault
