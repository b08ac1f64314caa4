use Rattle.std.proofs.Common.{◌≡◌, []}
use Rattle.std.specs.List.{AllByRecursion}
use Rattle.std.specs.Vec.Iter.{into_iter_items}
use Rattle.rowan.specs.Refs.{node_place}
use Rattle.toml_edit_plan.specs.Splices.{IsIn, edits_of, edits_with}
use Rattle.toml_edit_plan.proofs.splice.made.Given as goal

-- the edits so far, and the splices that are left
abbrev pub invariant-loop-splice : goal.invariant-loop-splice
invariant-loop-splice l =
    let root = (node_place l.fn.root).root in
    let rest = into_iter_items l.splice-iterator in
    (l.editor.root ≡ root)
    × (l.editor.arrangements ≡ [])
    × (edits_with l.editor.edits rest ≡ edits_of l.fn.splices.items)
    × (AllByRecursion (IsIn root) rest → AllByRecursion (IsIn root) l.fn.splices.items)
