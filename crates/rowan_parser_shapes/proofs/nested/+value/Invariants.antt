use Rattle.std.proofs.Common.{length, ◌+◌, ◌*◌, ◌≤◌}
use Rattle.rowan_parser.specs.Making.{HasItems}
use Rattle.rowan_parser.specs.Shape.{none, token_then}
use Rattle.rowan_parser_shapes.specs.Shapes.{IsValue}
use Rattle.rowan_parser_shapes.proofs.nested.+value.Given as goal

abbrev pub decreases-value : goal.decreases-value
decreases-value l = 2 * l.depth

abbrev pub decreases-list : goal.decreases-list
decreases-list l = 2 * l.depth + 1

abbrev pub invariant-list-items : goal.invariant-list-items
invariant-list-items l = record {
  made : HasItems (IsValue l.fn.depth) l.fn.p l.p l.node (token_then none);
  left : length l.p.left ≤ length l.fn.p.left;
}

abbrev pub decreases-list-items : goal.decreases-list-items
decreases-list-items l = length l.p.left
