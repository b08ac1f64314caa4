-- What holds of each run.
use Rattle.rowan_predictive.proofs.Bridge.{parsed, derived}
use Rattle.rowan_predictive.proofs.Whole.{run-tokens, run-nodes, run-sound, run-complete}
use Rattle.rowan_predictive.proofs.grammars.Grammar.run.Goals as goal

pub returns-clause-tokens : goal.returns-clause-tokens
returns-clause-tokens c =
    let p = c.in_ok-outcome.outcome in
    run-tokens c.args.self.now.entries.items c.args.start c.args.kinds.now p.actions.items p.complaints.items c.in_ok-outcome.ensures

pub returns-clause-nodes : goal.returns-clause-nodes
returns-clause-nodes c =
    let p = c.in_ok-outcome.outcome in
    run-nodes c.args.self.now.entries.items c.args.start c.args.kinds.now p.actions.items p.complaints.items c.in_ok-outcome.ensures

pub returns-clause-sound : goal.returns-clause-sound
returns-clause-sound c = λ none.
    let p = c.in_ok-outcome.outcome in
    let entries = c.args.self.now.entries.items in
    let d = run-sound entries c.args.start c.args.kinds.now p.actions.items p.complaints.items c.in_ok-outcome.ensures none in
    parsed entries d.0 c.args.start c.args.kinds.now p.actions.items d.1

pub returns-clause-complete : goal.returns-clause-complete
returns-clause-complete c = λ actions parses.
    let p = c.in_ok-outcome.outcome in
    let entries = c.args.self.now.entries.items in
    let d = derived entries c.args.start c.args.kinds.now actions parses in
    run-complete entries c.args.self.now.predictive c.args.kinds.now d.0 actions c.args.start
    p.actions.items p.complaints.items c.in_ok-outcome.ensures d.1
