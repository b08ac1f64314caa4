use Rattle.std.proofs.Common.{length}
use Rattle.rowan_parser.specs.Making.{HasItems}
use Rattle.rowan_parser.specs.Shape.{none, token_then}
use Rattle.rowan_parser_shapes.specs.Shapes.{IsElement}
use Rattle.rowan_parser_shapes.proofs.shapes.list.Given as goal

abbrev pub invariant-items : goal.invariant-items
invariant-items l = HasItems IsElement l.fn.p l.p l.node (token_then none)

abbrev pub decreases-items : goal.decreases-items
decreases-items l = length l.p.left
