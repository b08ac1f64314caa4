use base.Stored.{gnil}
use Rattle.rowan_thin_rc_tests.proofs.tests.a_block_grows_and_is_closed.Given as goal

abbrev pub ghost-close : goal.ghost-close
ghost-close g a = gnil
