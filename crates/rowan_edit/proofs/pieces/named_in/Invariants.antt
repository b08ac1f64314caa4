use Rattle.std.proofs.Common.{◌≡◌, ◌++◌}
use Rattle.std.specs.Vec.Iter.{into_iter_items}
use Rattle.rowan_green.specs.Term.{node_children}
use Rattle.rowan_edit.specs.Pieces.{named_in}
use Rattle.rowan_edit.proofs.pieces.named_in.Given as goal

-- those that are done, and those that are left
abbrev pub invariant-loop-piece : goal.invariant-loop-piece
invariant-loop-piece l =
    let cs = node_children l.node in
    l.elements.items ++ named_in cs (into_iter_items l.piece-iterator)
    ≡ named_in cs l.fn.pieces.items
