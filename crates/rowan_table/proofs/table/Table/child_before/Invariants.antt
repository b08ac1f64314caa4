use Rattle.std.proofs.Common.{ℕ, ◌-◌, ◌<◌, ◌≤◌, ◌∷◌, [], ◌++◌}
use Rattle.rowan_green.specs.declared.utility_types.NodeOrToken.TheVariants.{Node}
use Rattle.rowan_terms.specs.Path.{offset}
use Rattle.rowan_table.specs.Equal.{start_of}
use Rattle.rowan_table.specs.Moves.{child_count}
use Rattle.rowan_table.specs.TableView.{root_of, path_at, cursor_of}
use Rattle.rowan_table.proofs.table.Table.child_before.Given as goal

-- the child that is left of these starts before the offset, if it is not the first of all, and no
-- child behind them does
abbrev pub invariant-loop-child : goal.invariant-loop-child
invariant-loop-child l =
    let table = l.self in
    let first = l.initial.child in
    let p = path_at table l.number in
    record {
      from : first ≤ l.child;
      order : l.child < l.end;
      to : l.end ≤ l.initial.end;
      before : first < l.child → start_of (cursor_of table l.child) < l.offset;
      behind : (j : ℕ) → l.end - first ≤ j → j < child_count (root_of table) p
          → l.offset ≤ offset (Node (root_of table)) (p ++ j ∷ []);
    }

abbrev pub decreases-loop-child : goal.decreases-loop-child
decreases-loop-child l = l.end - l.child
