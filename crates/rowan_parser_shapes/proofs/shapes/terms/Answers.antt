use Rattle.std.proofs.Common.{rules}
use Rattle.rowan_parser.proofs.Rules.{making}
use Rattle.rowan_parser.specs.Shape.{none, token_then, node_then}
use Rattle.rowan_parser_shapes.specs.Shapes.{only, plus, a_literal}
use Rattle.rowan_parser_shapes.proofs.shapes.terms.Goals as goal

pub terms-init : goal.terms-init
terms-init c = record {
  kind = 6;
  inside = token_then none;
  is = only;
  ended = c.literal-left.ensures.node;
}

pub terms-preserved : goal.terms-preserved
terms-preserved c =
    let h = c.terms.invariant in
    record {
      kind = 7;
      inside = node_then h.kind h.inside (token_then a_literal);
      is = plus h.kind h.inside h.is;
      ended = search (rules, making);
    }
