use Rattle.std.proofs.Common.{◌≡◌, ◌++◌}
use Rattle.std.specs.Vec.Iter.{into_iter_items}
use Rattle.toml_edit_plan.specs.Runs.{nodes_in, others_in}
use Rattle.toml_edit_plan.proofs.runs.push_pieces.Given as goal

abbrev pub invariant-loop-piece : goal.invariant-loop-piece
invariant-loop-piece l =
    (nodes_in l.new.items ++ into_iter_items l.piece-iterator
    ≡ nodes_in l.fn.new.items ++ l.fn.pieces.items)
    × (others_in l.new.items ≡ others_in l.fn.new.items)
