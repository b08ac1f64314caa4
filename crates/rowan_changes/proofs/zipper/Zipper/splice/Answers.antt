use Rattle.rowan_changes.proofs.ZipperLemmas.{spliced-around}
use Rattle.rowan_changes.proofs.zipper.Zipper.splice.Goals as goal

pub returns-clause-tree : goal.returns-clause-tree
returns-clause-tree c =
    spliced-around c.args.self.above.items c.args.self.inner c.in_ok-inner.inner c.args.start
    c.args.end c.args.new.items c.in_ok-inner.ensures.node c.in_ok-inner.ensures.closed
