use Rattle.rowan_rewrite.proofs.PassSteps.{IsNew, enters}
use Rattle.rowan_rewrite.proofs.rewriting.pass.Pass.enter.Goals as goal

pub returns-clause-ok : goal.returns-clause-ok
returns-clause-ok c =
    let d = c.new.result in
    let made = c.new.ensures in
    let h : IsNew c.args.node.now d =
    record {
      node = made.node;
      next = made.next;
      lead = made.lead;
      done = made.done;
    } in
    enters c.args.self (record { above = c.push.new.self; inner = d }) c.args.node.now
    c.requires.pass c.requires.child c.in_ok-push.ensures.items h
