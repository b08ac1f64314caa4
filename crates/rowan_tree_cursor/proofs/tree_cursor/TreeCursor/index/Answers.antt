use Rattle.std.proofs.Common.{◌≡◌, ◌-◌, length, Some, sym, ◌∙◌, ap}
use Rattle.std.specs.Prelude.{slice_get}
use Rattle.rowan_table.specs.Cursor.{index, last_index}
use Rattle.rowan_table.proofs.PathLemmas.{last_index-child}
use Rattle.rowan_tree_cursor.specs.TreeCursor.{path_of}
use Rattle.rowan_tree_cursor.proofs.TreeCursorLemmas.{ends-with, path-ends}
use Rattle.rowan_tree_cursor.proofs.tree_cursor.TreeCursor.index.Goals as goal

pub returns : goal.returns
returns c =
    let all = c.self.inside.above.items in
    let f = c.in-Some.frame in
    let there : slice_get all (length all - 1) ≡ Some f = cc in
    let e = ends-with all f there in
    sym (ap index (sym c.self.view_is) ∙ ap last_index (path-ends all f e)
    ∙ last_index-child (path_of e.before) f.index)
