use Rattle.rowan_green.proofs.green.node.block.ChildBlock.close.Given as goal

abbrev pub ghost-close : goal.ghost-close
ghost-close g a = g.label
