-- An interrupted read takes nothing from the input.
use Rattle.std.specs.Io.KnownBytes.{Keeps}
use Rattle.rowan_program.proofs.program.read_some.Given as goal

abbrev pub invariant-loop : goal.invariant-loop
invariant-loop g l = Keeps (g.R.Read.remaining l.initial.input) (g.R.Read.remaining l.input)
