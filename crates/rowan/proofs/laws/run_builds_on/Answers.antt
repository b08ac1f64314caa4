use Rattle.rowan_script.proofs.RunLaws.{builds-run}
use Rattle.rowan.proofs.laws.run_builds_on.Goals as goal

pub returns : goal.returns
returns c = builds-run
