use Rattle.std.proofs.Common.{arith}
use Rattle.rowan_parser.proofs.Joining.{len_ends, len_none, len_more}
use Rattle.rowan_parser.proofs.tree.joined_len.Goals as goal

pub loop-token-init : goal.loop-token-init
loop-token-init c = record {
  counted = omega arith;
  so_far = omega arith;
}

pub loop-token-preserved : goal.loop-token-preserved
loop-token-preserved c = record {
  counted = omega (arith, c.loop-token.invariant.counted);
  so_far = len_more c.args.trivia c.args.tokens.now c.loop-token.token-index c.loop-token.count _ _
      _ _ (omega arith) (omega arith) c.count_behind-count.ensures c.loop-token.invariant.so_far;
}

pub returns-then-count-eq0 : goal.returns-then-count-eq0
returns-then-count-eq0 c = len_ends c.args.trivia c.loop-token.count _ _ _ c.if-count-eq0.true
    c.loop-token.invariant.so_far

pub returns : goal.returns
returns c = len_none c.args.trivia c.loop-token.count c.args.tokens.now c.loop-token.token-index _ _
    (omega arith) c.loop-token.invariant.so_far
