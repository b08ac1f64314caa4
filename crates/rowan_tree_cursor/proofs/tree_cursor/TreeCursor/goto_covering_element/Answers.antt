use Rattle.rowan_tree_cursor.proofs.TreeCursorSearchLemmas.{back}
use Rattle.rowan_tree_cursor.proofs.tree_cursor.TreeCursor.goto_covering_element.Goals as goal

pub returns-in-Err-clause-unchanged : goal.returns-in-Err-clause-unchanged
returns-in-Err-clause-unchanged c =
    back c.args.self.now c.descend.new.self c.climb_to.new.self c.depth-depth.result
    c.descend.ensures.root c.descend.ensures.below c.climb_to.ensures.root c.depth-depth.ensures
    c.climb_to.ensures.path
