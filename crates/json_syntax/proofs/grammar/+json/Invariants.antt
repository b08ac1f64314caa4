-- A call goes to a smaller depth, or at one depth from a member to a value and from it to a list.
use Rattle.std.proofs.Common.{◌+◌, ◌*◌}
use Rattle.json_syntax.proofs.grammar.+json.Given as goal

abbrev pub decreases-list : goal.decreases-list
decreases-list l = 3 * l.depth

abbrev pub decreases-value : goal.decreases-value
decreases-value l = 3 * l.depth + 1

abbrev pub decreases-member : goal.decreases-member
decreases-member l = 3 * l.depth + 2
