use Rattle.rowan_thin_rc.proofs.header_slice.HeaderSlice.from_last.Given as goal

abbrev pub ghost-close : goal.ghost-close
ghost-close g a = g.label
