use Rattle.std.proofs.Common.{refl, ap₂, ◌∙◌, arith}
use Rattle.std.proofs.lemmas.List.{drop_more}
use Rattle.rowan_parser.proofs.Ranges.{span, ranges_more, ranges_end, left_more}
use Rattle.rowan_parser.proofs.places.token_ranges.Goals as goal

pub loop-token-preserved : goal.loop-token-preserved
loop-token-preserved c =
    let next = drop_more c.args.tokens.now c.loop-token.token-index _ (omega arith) in
    record {
      left = left_more _ _ _ c.loop-token.end _ next c.loop-token.invariant.left;
      so_far = ranges_more c.args.trivia c.args.tokens.now _ _ c.loop-token.end _ _ c.new-range.result
          c.is_trivia.result _ _ next refl (c.new-range.ensures ∙ ap₂ span c.from.ensures c.from-in-loop-token.ensures) c.is_trivia.ensures
          c.in_ok-push_range.ensures.ranges c.loop-token.invariant.so_far;
    }

pub returns-clause-ranges : goal.returns-clause-ranges
returns-clause-ranges c = ranges_end c.args.trivia c.args.tokens.now c.loop-token.end
    c.loop-token.token-index _ (omega arith) c.loop-token.invariant.so_far
