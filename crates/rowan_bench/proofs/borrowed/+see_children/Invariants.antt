use Rattle.rowan_bench.proofs.borrowed.+see_children.Given as goal

abbrev pub decreases-see_children : goal.decreases-see_children
decreases-see_children l = l.levels
