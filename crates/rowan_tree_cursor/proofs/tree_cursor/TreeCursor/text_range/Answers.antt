use Rattle.std.proofs.Common.{arith}
use Rattle.rowan_green.specs.Lent.{pointee}
use Rattle.rowan_tree_cursor.proofs.TreeCursorLemmas.{placed-end}
use Rattle.rowan_tree_cursor.proofs.tree_cursor.TreeCursor.text_range.Goals as goal

pub at-requires : goal.at-requires
at-requires c =
    let s = c.self.inside in
    let end = placed-end s.root.now s.above.items (pointee s.element) s.start c.self.invariant in
    omega (arith, end, c.text_len.ensures.len)
