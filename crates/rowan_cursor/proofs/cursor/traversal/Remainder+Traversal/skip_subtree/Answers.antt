use Rattle.std.proofs.Common.{Ok, sym, ◌∙◌, ap, subst}
use Rattle.rowan_table.specs.Preorder.{skip_rest}
use Rattle.rowan_cursor.specs.TraversalView.{traversal_events, traversal_node_events}
use Rattle.rowan_cursor.specs.TraversalView.{HasNodeTraversal}
use Rattle.rowan_cursor.specs.Walks.{rest_of, IfWalk}
use Rattle.rowan_cursor.proofs.cursor.traversal.Remainder+Traversal.skip_subtree.Goals as goal

pub returns-in-Walk-clause-events : goal.returns-in-Walk-clause-events
returns-in-Walk-clause-events c =
    ap (λ es. Ok es) (rw c.deref.ensures at c.skip_subtree.ensures.events)
    ∙ ap (λ r. skip_rest (rest_of traversal_events r)) (sym c.in-Walk.is)

pub returns-in-Walk-clause-node_events : goal.returns-in-Walk-clause-node_events
returns-in-Walk-clause-node_events c = λ h.
    (let fits = subst (IfWalk HasNodeTraversal) c.in-Walk.is h in
    ap (λ es. Ok es)
    (rw c.deref.ensures at c.skip_subtree.ensures.node_events fits.tokens)
    ∙ ap (λ r. skip_rest (rest_of traversal_node_events r)) (sym c.in-Walk.is))
