use Rattle.std.proofs.iter.runs.Consumers.{last_runs}
use Rattle.rowan_green.specs.Gives.{GivesFirst}
use Rattle.rowan_green.proofs.GivesLemmas.{last_given}
use Rattle.rowan_green.proofs.green.children.Children.last.Goals as goal

pub returns-clause-ran : goal.returns-clause-ran
returns-clause-ran c =
    last_given c.args.self c.next_back.result c.next_back.new.self c.next_back.ensures.steps

pub returns-clause-runs : goal.returns-clause-runs
returns-clause-runs c =
    last_runs GivesFirst c.args.self c.next_back.result (returns-clause-ran c)
