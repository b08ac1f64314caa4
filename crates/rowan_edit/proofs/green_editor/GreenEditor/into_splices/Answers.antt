use Rattle.std.proofs.Common.{ap}
use Rattle.rowan_changes.specs.Plan.{Plan}
use Rattle.rowan_edit.proofs.RankedLemmas.{listed, seen-listed}
use Rattle.rowan_edit.proofs.green_editor.GreenEditor.into_splices.Goals as goal

pub in_order-requires : goal.in_order-requires
in_order-requires c = c.self.invariant.ranked

pub returns-clause-root : goal.returns-clause-root
returns-clause-root c = ap (λ (p : Plan). p.root) c.self.view_is

pub returns-clause-edits : goal.returns-clause-edits
returns-clause-edits c =
    ap (λ (p : Plan). p.edits) (seen-listed c.self.inside.root c.self.inside.edits.entries
    c.in_ok-edits.edits.items c.args.self c.in_ok-edits.ensures.ok c.self.view_is)

pub returns-clause-listed : goal.returns-clause-listed
returns-clause-listed c =
    listed c.self.inside.root c.self.inside.edits.entries c.in_ok-edits.edits.items
    c.in_ok-edits.ensures.ok c.self.invariant
