-- Iterators over a node's children, by the list of terms that is left.
use Rattle.std.specs.Prelude.{◌≡◌, ◌<◌, List, [], ◌∷◌, ◌++◌, length, Option, Some, None, Result, Ok}
use Rattle.std.specs.Prelude.{Err}
use Rattle.rowan_green.specs.declared.fault.Fault.{Fault}
use Rattle.rowan_green.specs.declared.fault.Fault.TheVariants.{Memory}
use Rattle.rowan_green.specs.Term.{Term}

-- a call gives the first of the terms before it and leaves the others; after an error nothing is
-- there any more
abbrev pub GivesFirst : List Term → Option (Result Term Fault) → List Term → Type 0
GivesFirst before None after = (before ≡ []) × (after ≡ [])
GivesFirst before (Some (Ok t)) after = before ≡ t ∷ after
GivesFirst before (Some (Err e)) after = (e ≡ Memory) × (0 < length before) × (after ≡ [])

-- a call gives the last of the terms before it and leaves the others; after an error nothing is
-- there any more
abbrev pub GivesLast : List Term → Option (Result Term Fault) → List Term → Type 0
GivesLast before None after = (before ≡ []) × (after ≡ [])
GivesLast before (Some (Ok t)) after = before ≡ after ++ t ∷ []
GivesLast before (Some (Err e)) after = (e ≡ Memory) × (0 < length before) × (after ≡ [])
