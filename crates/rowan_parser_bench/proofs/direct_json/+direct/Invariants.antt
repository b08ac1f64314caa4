-- A call goes to a smaller depth, or at one depth from a list to a member and from it to a value.
use Rattle.std.proofs.Common.{◌+◌, ◌*◌}
use Rattle.rowan_parser_bench.proofs.direct_json.+direct.Given as goal

abbrev pub decreases-put_value : goal.decreases-put_value
decreases-put_value l = 3 * l.depth

abbrev pub decreases-put_member : goal.decreases-put_member
decreases-put_member l = 3 * l.depth + 1

abbrev pub decreases-put_list : goal.decreases-put_list
decreases-put_list l = 3 * l.depth + 2
