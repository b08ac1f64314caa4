use Rattle.std.proofs.Common.{drop, arith}
use Rattle.std.proofs.iter.runs.Consumers.{nth_runs}
use Rattle.std.proofs.lemmas.Grind.{common_steps}
use Rattle.rowan_green.specs.Gives.{GivesFirst}
use Rattle.rowan_green.proofs.GivesLemmas.{skips}
use Rattle.rowan_green.proofs.green.children.Children.nth.Goals as goal

pub returns-clause-ran : goal.returns-clause-ran
returns-clause-ran c =
    let given : GivesFirst (drop c.args.n c.args.self.now) c.next.result c.next.new.self =
    grind (arith, common_steps) in
    skips c.args.n c.args.self.now c.next.result c.next.new.self given

pub returns-clause-runs : goal.returns-clause-runs
returns-clause-runs c =
    nth_runs GivesFirst c.args.self.now c.next.new.self c.args.n c.next.result (returns-clause-ran c)
