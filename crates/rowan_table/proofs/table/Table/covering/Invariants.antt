use Rattle.std.proofs.Common.{◌-◌, length}
use Rattle.rowan_terms.specs.Path.{Path}
use Rattle.rowan_table.specs.Search.{Covers}
use Rattle.rowan_table.specs.TableView.{root_of, path_at, IsPlace, entries_of}
use Rattle.rowan_table.proofs.table.Table.covering.Given as goal

-- what covers the range below the element that is reached covers it below the first
abbrev pub invariant-loop-child : goal.invariant-loop-child
invariant-loop-child l =
    let s = l.self in
    IsPlace s l.covering
    × ((q : Path) → Covers (root_of s) l.range (path_at s l.covering.number) q
    → Covers (root_of s) l.range (path_at s l.initial.covering.number) q)

abbrev pub decreases-loop-child : goal.decreases-loop-child
decreases-loop-child l = length (entries_of l.self) - l.covering.number
