use Rattle.rowan_thin_rc.proofs.header_slice.Open.close.Given as goal

abbrev pub ghost-from_room : goal.ghost-from_room
ghost-from_room g a = g.label
