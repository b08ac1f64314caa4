use Rattle.std.proofs.Common.{◌∙◌}
use Rattle.rowan_builder.proofs.StreamLemmas.{BuildsOn-trans}
use Rattle.rowan_parser.proofs.Spelling.{opening_more}
use Rattle.rowan_parser.proofs.tree.open_nodes.Goals as goal

pub loop-outer-preserved : goal.loop-outer-preserved
loop-outer-preserved c = record {
  building = c.in_ok-progress.ensures.ok;
  stream = BuildsOn-trans _ _ _ c.loop-outer.invariant.stream c.open_node.ensures.stream;
  loan = c.open_node.ensures.loan ∙ c.loop-outer.invariant.loan;
  opens = opening_more c.args.source.now c.in-Some.outer _ _ _ _ _ _ _ _ _ c.in-Some.ensures.items
      c.loop-outer.invariant.opens c.in_ok-progress.ensures.done;
}
