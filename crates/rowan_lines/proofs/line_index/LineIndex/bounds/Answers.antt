use Rattle.std.proofs.Common.{◌+◌, arith}
use Rattle.rowan_lines.proofs.LineLemmas.{line_start-le-next, line_start-within}
use Rattle.rowan_lines.proofs.line_index.LineIndex.bounds.Goals as goal

pub returns-clause-order : goal.returns-clause-order
returns-clause-order c = omega (
  arith,
  line_start-le-next c.args.self.now c.args.line,
  c.start.ensures,
  c.start-2.ensures,
)

pub returns-clause-within : goal.returns-clause-within
returns-clause-within c = omega (
  arith,
  line_start-within c.args.self.now (c.args.line + 1),
  c.start-2.ensures,
)
