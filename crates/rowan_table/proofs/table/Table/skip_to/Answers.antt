use Rattle.rowan_table.proofs.SkipLemmas.{skip_nothing, skip_child}
use Rattle.rowan_table.proofs.table.Table.skip_to.Goals as goal

pub loop-child-init : goal.loop-child-init
loop-child-init c = skip_nothing c.args.self.now c.args.offset c.args.top c.requires

pub loop-child-preserved : goal.loop-child-preserved
loop-child-preserved c =
    skip_child c.args.self.now c.args.offset c.args.top c.loop-child.number c.in-Some.child
    c.loop-child.invariant c.in-Some.ensures.within c.in-Some.ensures.child
