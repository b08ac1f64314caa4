use Rattle.std.proofs.Common.{◌∙◌, ap}
use Rattle.rowan_green.specs.declared.utility_types.NodeOrToken.TheVariants.{Node}
use Rattle.rowan_changes.specs.Changes.{range_of}
use Rattle.rowan_edit.proofs.PlaceLemmas.{range-at}
use Rattle.rowan_changes.proofs.Untouched.{edit_at}
use Rattle.rowan_edit.proofs.plain_edits.arranged_splice.Goals as goal

pub returns-clause-range : goal.returns-clause-range
returns-clause-range c =
    let root = c.args.root.now in
    let place = c.in-Some.place in
    let end = c.len-end.result in
    let new = c.in_ok-new.new.items in
    c.range_of-range.ensures
    ∙ range-at root c.deref.result.now place.node.now place.start 0 end new
    c.in-Some.ensures.some c.in-Some.ensures.start
    ∙ ap (λ q. range_of (Node root) (edit_at q 0 end new)) c.deref.ensures.value
