use Rattle.std.proofs.Common.{◌+◌, ◌*◌}
use Rattle.script_syntax.proofs.types.+types.Given as goal

abbrev pub decreases-type_name : goal.decreases-type_name
decreases-type_name l = 2 * l.depth + 1

abbrev pub decreases-type_arguments : goal.decreases-type_arguments
decreases-type_arguments l = 2 * l.depth
