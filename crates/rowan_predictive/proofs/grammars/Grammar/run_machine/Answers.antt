use Rattle.rowan_predictive.specs.View.{state_of}
use Rattle.rowan_predictive.proofs.Whole.{first-total, last-within, is-run}
use Rattle.rowan_predictive.proofs.grammars.Grammar.run_machine.Goals as goal

pub run_to_end-requires-clause-total : goal.run_to_end-requires-clause-total
run_to_end-requires-clause-total c =
    first-total c.args.self.now.entries.items c.args.start c.args.kinds.now
    (state_of c.in_ok-machine.machine) c.in_ok-machine.ensures.state

pub finish-requires : goal.finish-requires
finish-requires c =
    last-within c.args.self.now.entries.items c.args.start c.args.kinds.now
    (state_of c.in_ok-machine.machine) c.in_ok-machine.ensures.state
    (state_of c.run_to_end.new.machine) c.in_ok-run_to_end.ensures

pub returns : goal.returns
returns c =
    is-run c.args.self.now.entries.items c.args.start c.args.kinds.now
    (state_of c.in_ok-machine.machine) c.in_ok-machine.ensures.state
    (state_of c.run_to_end.new.machine) c.in_ok-run_to_end.ensures _ _
    c.in_ok-outcome.ensures.actions c.in_ok-outcome.ensures.complaints
