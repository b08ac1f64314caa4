use Rattle.std.proofs.Common.{◌∙◌, refl, arith}
use Rattle.rowan_builder.proofs.StreamLemmas.{BuildsOn-trans}
use Rattle.rowan_parser.proofs.Passing.{some_more}
use Rattle.rowan_parser.proofs.tree.put_some.Goals as goal

pub loop-count-preserved : goal.loop-count-preserved
loop-count-preserved c = record {
  building = c.in_ok-progress.ensures.ok;
  stream = BuildsOn-trans _ _ _ c.loop-count.invariant.stream c.put_token.ensures.stream;
  loan = c.put_token.ensures.loan ∙ c.loop-count.invariant.loan;
  putting = some_more _ _ _ _ _ _ _ _ c.loop-count.count _ (omega arith) refl
      c.loop-count.invariant.putting c.in_ok-progress.ensures.puts;
  same = c.in_ok-progress.ensures.same ∙ c.loop-count.invariant.same;
}
