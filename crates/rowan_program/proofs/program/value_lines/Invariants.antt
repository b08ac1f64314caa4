use Rattle.std.specs.Prelude.{string_bytes}
use Rattle.rowan_program.proofs.ValueLines.{Lines}
use Rattle.rowan_program.proofs.program.value_lines.Given as goal

-- the lines so far are those of the expressions that came
abbrev pub invariant-loop-sexp : goal.invariant-loop-sexp
invariant-loop-sexp l = Lines l.root l.sexp-iterator (string_bytes l.lines)
