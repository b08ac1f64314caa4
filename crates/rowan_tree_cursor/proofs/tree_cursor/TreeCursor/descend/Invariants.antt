use Rattle.std.proofs.Common.{◌≡◌, true}
use Rattle.rowan_terms.specs.Path.{Path, begins}
use Rattle.rowan_table.specs.Search.{Covers}
use Rattle.rowan_tree_cursor.proofs.TreeCursorSearchLemmas.{size_at}
use Rattle.rowan_tree_cursor.proofs.tree_cursor.TreeCursor.descend.Given as goal

-- what covers the range below the element that is reached covers it below the first
abbrev pub invariant-loop : goal.invariant-loop
invariant-loop l =
    (l.self.root ≡ l.fn.self.root)
    × (begins l.fn.self.path l.self.path ≡ true)
    × ((q : Path) → Covers l.fn.self.root l.range l.self.path q
    → Covers l.fn.self.root l.range l.fn.self.path q)

abbrev pub decreases-loop : goal.decreases-loop
decreases-loop l = size_at l.self
