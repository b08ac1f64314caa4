use Rattle.rowan_table.specs.Table.{root_node, entry_path}
use Rattle.rowan_table.specs.TablePass.{StandsInside}
use Rattle.rowan_table.proofs.TokenLemmas.{first_child-inside, stands_at}
use Rattle.rowan_table.proofs.EventLemmas.{enter-child, enter-childless}
use Rattle.rowan_table.proofs.table.Table.event_after.Goals as goal
use Rattle.rowan_table.specs.TableView.{entries_of}

pub returns-in-Some-clause-next : goal.returns-in-Some-clause-next
returns-in-Some-clause-next c =
    let es = entries_of c.args.self.now in
    let n = c.in-Enter.number in
    let at : StandsInside c.args.self.now c.args.start n = rw c.in-Enter.is at c.requires in
    let there = stands_at es c.args.self.now.complete n at.within in
    rw c.in-Enter.is (enter-child (root_node es) (entry_path es c.args.start) (entry_path es n)
    (entry_path es c.in-Some.child) there.0 there.1 at.inside c.in-Some.ensures.path)

pub returns-in-Some-clause-inside : goal.returns-in-Some-clause-inside
returns-in-Some-clause-inside c =
    let es = entries_of c.args.self.now in
    let n = c.in-Enter.number in
    let at : StandsInside c.args.self.now c.args.start n = rw c.in-Enter.is at c.requires in
    record {
      top_within = c.requires.top_within;
      within = c.in-Some.ensures.within;
      inside = first_child-inside (root_node es) (entry_path es c.args.start) (entry_path es n)
          (entry_path es c.in-Some.child) at.inside c.in-Some.ensures.path;
    }

pub returns-in-None-clause-next : goal.returns-in-None-clause-next
returns-in-None-clause-next c =
    let es = entries_of c.args.self.now in
    let n = c.in-Enter.number in
    let at : StandsInside c.args.self.now c.args.start n = rw c.in-Enter.is at c.requires in
    let there = stands_at es c.args.self.now.complete n at.within in
    rw c.in-Enter.is (enter-childless (root_node es) (entry_path es c.args.start) (entry_path es n)
    there.0 there.1 c.in-None.ensures.path)
