use Rattle.std.proofs.Common.{◌-◌, length, take, arith}
use Rattle.std.proofs.iter.runs.Consumers.{nth_runs}
use Rattle.std.proofs.lemmas.Grind.{common_steps}
use Rattle.rowan_green.specs.Gives.{GivesLast}
use Rattle.rowan_green.proofs.GivesLemmas.{skips_back}
use Rattle.rowan_green.proofs.green.children.Children.nth_back.Goals as goal

pub returns-clause-ran : goal.returns-clause-ran
returns-clause-ran c =
    let ts = c.args.self.now in
    let given : GivesLast (take (length ts - c.args.n) ts) c.next_back.result c.next_back.new.self =
    grind (arith, common_steps) in
    skips_back c.args.n ts c.next_back.result c.next_back.new.self given

pub returns-clause-runs : goal.returns-clause-runs
returns-clause-runs c =
    nth_runs GivesLast c.args.self.now c.next_back.new.self c.args.n c.next_back.result
    (returns-clause-ran c)
