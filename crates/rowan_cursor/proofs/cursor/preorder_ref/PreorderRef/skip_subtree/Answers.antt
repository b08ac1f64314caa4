use Rattle.std.proofs.Common.{◌≡◌, ◌≤◌, length, sym, subst}
use Rattle.rowan_table.specs.declared.table.Table.{Table}
use Rattle.rowan_table.specs.Events.{LeavesNoToken}
use Rattle.rowan_table.specs.Preorder.{skip}
use Rattle.rowan_cursor.specs.RefWalks.{rest_of_node_events}
use Rattle.rowan_cursor.specs.TraversalView.{traversal_node_events}
use Rattle.rowan_cursor.proofs.FewerLemmas.{skip-fewer}
use Rattle.rowan_cursor.proofs.cursor.preorder_ref.PreorderRef.skip_subtree.Goals as goal

pub returns-clause-events : goal.returns-clause-events
returns-clause-events c =
    let walk = c.args.self.now.traversal in
    let rest = c.skip_subtree.new.self in
    subst (λ (t : Table). LeavesNoToken t walk.next
    → traversal_node_events t rest ≡ skip (traversal_node_events t walk)) c.deref.ensures
    c.skip_subtree.ensures.node_events c.args.self.now.fits.tokens

pub returns-clause-fewer : goal.returns-clause-fewer
returns-clause-fewer c =
    let before = rest_of_node_events c.args.self.now in
    subst (λ events. length events ≤ length before) (sym (returns-clause-events c))
    (skip-fewer before)
