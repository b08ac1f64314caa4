-- A call goes to a smaller depth, or at one depth from alternatives to one of them, from it to a
-- part and from that to a parenthesis.
use Rattle.std.proofs.Common.{◌+◌, ◌*◌}
use Rattle.rowan_grammar_reader.proofs.parser.+rules.Given as goal

abbrev pub decreases-group : goal.decreases-group
decreases-group l = 4 * l.depth

abbrev pub decreases-part : goal.decreases-part
decreases-part l = 4 * l.depth + 1

abbrev pub decreases-sequence : goal.decreases-sequence
decreases-sequence l = 4 * l.depth + 2

abbrev pub decreases-choice : goal.decreases-choice
decreases-choice l = 4 * l.depth + 3
