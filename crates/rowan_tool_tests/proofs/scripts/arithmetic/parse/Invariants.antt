use Rattle.std.proofs.Common.{◌≡◌, ◌++◌, length}
use denote.Shadow.{shadow}
use denote.Text.{Utf8}
use Rattle.rowan_builder.specs.Loan.{text_so_far}
use Rattle.rowan_tool_tests.proofs.scripts.arithmetic.parse.Given as goal

-- the tree has what was read, and the rest is still to come
abbrev pub invariant-loop-rest : goal.invariant-loop-rest
invariant-loop-rest l = shadow (Utf8 l.rest) × (text_so_far l.builder ++ l.rest ≡ l.text)

abbrev pub decreases-loop-rest : goal.decreases-loop-rest
decreases-loop-rest l = length l.rest

-- closing what is open adds nothing
abbrev pub invariant-loop-outer : goal.invariant-loop-outer
invariant-loop-outer l = text_so_far l.builder ≡ l.text
