-- In brackets the depth is smaller. At one depth a call goes down this page from a statement.
use Rattle.std.proofs.Common.{◌+◌, ◌-◌, ◌*◌}
use Rattle.script_syntax.proofs.grammar.+script.Given as goal

abbrev pub decreases-statement : goal.decreases-statement
decreases-statement l = 11 * l.depth + 10

abbrev pub decreases-let_statement : goal.decreases-let_statement
decreases-let_statement l = 11 * l.depth + 9

abbrev pub decreases-function : goal.decreases-function
decreases-function l = 11 * l.depth + 9

abbrev pub decreases-return_statement : goal.decreases-return_statement
decreases-return_statement l = 11 * l.depth + 9

-- and to an operator that binds more tightly
abbrev pub decreases-expression : goal.decreases-expression
decreases-expression l = 11 * l.depth + (4 + (4 - l.power))

abbrev pub decreases-operand : goal.decreases-operand
decreases-operand l = 11 * l.depth + 2

abbrev pub decreases-text : goal.decreases-text
decreases-text l = 11 * l.depth + 1

abbrev pub decreases-hole : goal.decreases-hole
decreases-hole l = 11 * l.depth

abbrev pub decreases-group : goal.decreases-group
decreases-group l = 11 * l.depth

abbrev pub decreases-arguments : goal.decreases-arguments
decreases-arguments l = 11 * l.depth

abbrev pub decreases-block : goal.decreases-block
decreases-block l = 11 * l.depth
