use Rattle.std.proofs.Common.{◌≡◌}
use Rattle.rowan_green.specs.declared.utility_types.NodeOrToken.TheVariants.{Node}
use Rattle.rowan_green.specs.Fits.{FitsNode}
use Rattle.rowan_table.specs.Replacement.{with_replacement}
use Rattle.rowan_table.specs.TableView.{cursor_of, IsNodeIn}
use Rattle.rowan_table.proofs.table.Table.replace_node.Given as goal

-- the new node, at the element that is reached, makes the same tree as the replacement at the first
-- one
abbrev pub invariant-loop-parent : goal.invariant-loop-parent
invariant-loop-parent l =
    IsNodeIn l.self l.current
    × (with_replacement (cursor_of l.self l.current) (Node l.green)
    ≡ with_replacement (cursor_of l.self l.number) (Node l.fn.replacement))
    × FitsNode l.green

abbrev pub decreases-loop-parent : goal.decreases-loop-parent
decreases-loop-parent l = l.current
