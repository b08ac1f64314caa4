use Rattle.std.proofs.Common.{sym, ◌∙◌, arith}
use Rattle.rowan_parser.proofs.Passing.{next_more, next_ends}
use Rattle.rowan_parser.proofs.tree.next_seen.Goals as goal

pub loop-next-preserved : goal.loop-next-preserved
loop-next-preserved c = record {
  within = omega (arith, c.is_trivia_at.ensures.there c.loop-next-test.true);
  so_far = next_more c.args.source.now c.args.put c.loop-next.next
      (sym c.loop-next-test.true ∙ c.is_trivia_at.ensures.begins) c.loop-next.invariant.so_far;
}

pub returns : goal.returns
returns c = next_ends c.args.source.now c.args.put c.loop-next.next c.loop-next.invariant.within
    (sym c.loop-next-test.false ∙ c.is_trivia_at.ensures.begins) c.loop-next.invariant.so_far
