-- The outcome of a call that the builder made.
use Rattle.std.specs.Prelude.{Result, Ok, Err}
use Rattle.rowan_green.specs.declared.fault.Fault.{Fault}
use Rattle.rowan_script.specs.declared.script.calls.Outcome.{Outcome}
use Rattle.rowan_script.specs.declared.script.calls.Outcome.TheVariants.{Accepted, Refused}

-- accepted, or refused with the call's fault
abbrev pub outcome_of : {A : Type 0} → Result A Fault → Outcome
outcome_of (Ok x) = Accepted
outcome_of (Err fault) = Refused fault
