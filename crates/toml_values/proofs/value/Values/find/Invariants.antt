use Rattle.std.proofs.Common.{◌≡◌, take}
use Rattle.toml_values.specs.Find.{place_at}
use Rattle.toml_values.proofs.value.Values.find.Given as goal

-- the place is that of the steps so far
abbrev pub invariant-loop-step : goal.invariant-loop-step
invariant-loop-step l =
    l.place ≡ place_at l.self.slots.items (take l.step-index l.step-items)
