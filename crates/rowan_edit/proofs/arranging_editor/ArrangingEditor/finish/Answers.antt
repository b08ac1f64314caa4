use Rattle.rowan_edit.specs.ArrangementsKept.{arrangements_in}
use Rattle.rowan_edit.proofs.ArrangedPlanLemmas.{planned, on-ok-all}
use Rattle.rowan_edit.proofs.arranging_editor.ArrangingEditor.finish.Goals as goal

pub returns-clause-planned : goal.returns-clause-planned
returns-clause-planned c =
    on-ok-all c.edited_tree.result (planned c.self.inside.green.root c.in_ok-root.root
    c.self.inside.green.edits c.in_ok-root.edits.items
    (arrangements_in c.self.inside.arrangements.entries) c.args.self c.self.view_is
    c.in_ok-root.ensures.root c.in_ok-root.ensures.edits c.in_ok-root.ensures.listed
    c.in_ok-edits.ensures.order c.self.invariant)
