use Rattle.std.proofs.Common.{◌≡◌, length, ◌++◌}
use Rattle.std.specs.Prelude.{reverse}
use Rattle.rowan_changes.proofs.open_node.OpenNode.splice.Given as goal

-- what is left of the new children stands before those that are done
abbrev pub invariant-loop-element : goal.invariant-loop-element
invariant-loop-element l =
    l.new.items ++ reverse l.done.items ≡ l.initial.new.items ++ reverse l.initial.done.items

abbrev pub decreases-loop-element : goal.decreases-loop-element
decreases-loop-element l = length l.new.items
