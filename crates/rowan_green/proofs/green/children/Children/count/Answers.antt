use Rattle.std.proofs.Common.{◌≡◌, length, sym, ◌∙◌, ap}
use Rattle.std.proofs.lemmas.List.{length-map}
use Rattle.std.proofs.iter.runs.Consumers.{count_runs}
use Rattle.rowan_green.specs.Gives.{GivesFirst}
use Rattle.rowan_green.specs.View.{child_term}
use Rattle.rowan_green.proofs.GivesLemmas.{all_given}
use Rattle.rowan_green.proofs.green.children.Children.count.Goals as goal

pub returns-clause-ran : goal.returns-clause-ran
returns-clause-ran c =
    let rest = c.self.inside.rest.now in
    let k = all_given c.args.self in
    let len : length rest ≡ length c.args.self =
    sym (length-map rest child_term) ∙ ap length c.self.view_is in
    (k.0, k.1, len ∙ k.2)

pub returns-clause-runs : goal.returns-clause-runs
returns-clause-runs c =
    count_runs GivesFirst c.args.self (length c.self.inside.rest.now) (returns-clause-ran c)
