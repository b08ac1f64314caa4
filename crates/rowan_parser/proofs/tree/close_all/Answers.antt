use Rattle.std.proofs.Common.{arith, ◌∙◌}
use Rattle.std.proofs.lemmas.Result.{err_from_is_err_and}
use Rattle.rowan_builder.proofs.StreamLemmas.{BuildsOn-trans}
use Rattle.rowan_parser.proofs.Spelling.{closings_more}
use Rattle.rowan_parser.proofs.Refusals.{closing_refuses}
use Rattle.rowan_parser.proofs.tree.close_all.Goals as goal

pub returns-in_err-progress-clause-err : goal.returns-in_err-progress-clause-err
returns-in_err-progress-clause-err c =
    let p = err_from_is_err_and c.from_residual.result c.from_residual.ensures.1 in
    rw (p.1, p.2) (closing_refuses c.loop-progress.progress.depth _ _ c.args.source.now.tokens.now _
    (omega arith) c.loop-progress.invariant.closes c.in_err-progress.ensures.err)

pub loop-progress-preserved : goal.loop-progress-preserved
loop-progress-preserved c = record {
  building = c.in_ok-progress.ensures.ok;
  stream = BuildsOn-trans _ _ _ c.loop-progress.invariant.stream c.close_node.ensures.stream;
  loan = c.close_node.ensures.loan ∙ c.loop-progress.invariant.loan;
  closes = closings_more c.loop-progress.progress.depth _ _ _ _ (omega arith)
      c.in_ok-progress.ensures.less c.loop-progress.invariant.closes
      (c.in_ok-progress.ensures.closes (omega arith));
  same = c.in_ok-progress.ensures.same ∙ c.loop-progress.invariant.same;
}
