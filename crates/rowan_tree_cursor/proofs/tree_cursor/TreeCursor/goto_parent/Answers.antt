use Rattle.std.proofs.Common.{refl, sym, ◌∙◌, ap}
use Rattle.rowan_green.specs.Lent.{pointee}
use Rattle.rowan_table.specs.Moves.{parent, cursor_at}
use Rattle.rowan_tree_cursor.specs.TreeCursor.{path_of}
use Rattle.rowan_tree_cursor.proofs.TreeCursorLemmas.{path-more, placed-parent}
use Rattle.rowan_tree_cursor.proofs.TreeCursorMoveLemmas.{goes, parent-some}
use Rattle.rowan_tree_cursor.proofs.tree_cursor.TreeCursor.goto_parent.Goals as goal

pub invariant_of-self-2 : goal.invariant_of-self-2
invariant_of-self-2 c =
    let s = c.self.inside in
    let up = placed-parent s.root.now s.above.items c.pop.new.self.items c.in-Some.frame
    (pointee s.element) s.start c.self.invariant c.in-Some.ensures.items in
    up.parent

pub returns : goal.returns
returns c =
    let s = c.self.inside in
    let before = c.pop.new.self.items in
    let f = c.in-Some.frame in
    let path = ap path_of c.in-Some.ensures.items ∙ path-more before f in
    goes (parent c.args.self.now) c.args.self.now (cursor_at s.root.now (path_of before)) _
    (ap parent (sym c.self.view_is)
    ∙ parent-some s.root.now (path_of before) (path_of s.above.items) f.index path) refl
