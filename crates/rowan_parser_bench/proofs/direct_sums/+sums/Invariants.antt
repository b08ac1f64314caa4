-- A call goes to a smaller depth, or at one depth from an operand to an expression.
use Rattle.std.proofs.Common.{◌+◌, ◌*◌}
use Rattle.rowan_parser_bench.proofs.direct_sums.+sums.Given as goal

abbrev pub decreases-put_expression : goal.decreases-put_expression
decreases-put_expression l = 2 * l.depth

abbrev pub decreases-put_operand : goal.decreases-put_operand
decreases-put_operand l = 2 * l.depth + 1
