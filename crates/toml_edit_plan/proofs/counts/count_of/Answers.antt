use Rattle.std.proofs.Common.{◌∙◌, ap, arith}
use Rattle.rowan.specs.Term.{node_children}
use Rattle.toml_edit_plan.proofs.CountLemmas.{count-more}
use Rattle.toml_edit_plan.proofs.counts.count_of.Goals as goal

pub loop-index-preserved : goal.loop-index-preserved
loop-index-preserved c =
    let inv = c.loop-index.invariant in
    let k = c.loop-index.index in (
      omega (arith, inv.0),
      omega (arith, inv.0, c.loop-index-test.true),
      omega (arith, inv.0, inv.2, c.bit_at-count.ensures.most),
      omega (
        arith,
        inv.3,
        c.bit_at-count.ensures.same,
        count-more c.args.sort (node_children c.args.list.now) c.args.start k inv.0,
      ),
    )
