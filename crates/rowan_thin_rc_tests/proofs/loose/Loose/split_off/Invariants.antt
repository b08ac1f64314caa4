use base.Stored.{gnil}
use Rattle.rowan_thin_rc_tests.proofs.loose.Loose.split_off.Given as goal

abbrev pub ghost-from_last : goal.ghost-from_last
ghost-from_last a = gnil
