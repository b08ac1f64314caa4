use Rattle.std.proofs.Common.{length}
use Rattle.rowan_parser.specs.Making.{IsNodeOf}
use Rattle.rowan_parser_shapes.specs.Shapes.{IsTerm}
use Rattle.rowan_parser_shapes.proofs.shapes.terms.Given as goal

abbrev pub invariant-terms : goal.invariant-terms
invariant-terms l = IsNodeOf IsTerm l.fn.p l.p l.left

abbrev pub decreases-terms : goal.decreases-terms
decreases-terms l = length l.p.left
