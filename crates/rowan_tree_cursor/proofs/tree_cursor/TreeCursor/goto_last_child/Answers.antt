use Rattle.std.proofs.Common.{◌-◌, ◌∙◌, ap, subst, IfOk}
use Rattle.rowan_tree_cursor.specs.TreeCursorMoves.{GoesTo}
use Rattle.rowan_tree_cursor.proofs.TreeCursorMoveLemmas.{last-is}
use Rattle.rowan_tree_cursor.proofs.tree_cursor.TreeCursor.goto_last_child.Goals as goal

pub returns-clause-ok : goal.returns-clause-ok
returns-clause-ok c =
    let now = c.args.self.now in
    let new = c.goto_child_at_index.new.self in
    let last = c.saturating_sub-last.ensures ∙ ap (λ n. n - 1) c.child_count.ensures in
    subst (λ o. IfOk c.goto_child_at_index.result (λ moved. GoesTo o now moved new))
    (last-is now c.saturating_sub-last.result last) c.goto_child_at_index.ensures.ok
