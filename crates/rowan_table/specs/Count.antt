-- How many nodes and tokens a tree has, and how many of them a count that goes level by level has
-- still to come to.
use Rattle.std.specs.Prelude.{ℕ, ◌+◌}
use Rattle.std.specs.List.{sum_by}
use Rattle.rowan_green.specs.declared.utility_types.NodeOrToken.TheVariants.{Node, Token}
use Rattle.rowan_green.specs.Term.{Term, NodeTerm, node, Forest, empty, node_then, token_then}
use Rattle.rowan_green.specs.Term.{node_children}
use Rattle.rowan_table.specs.declared.table.count.Count.{Count}

abbrev mutual
  -- how many nodes and tokens are below a node
  pub entries_below : NodeTerm → ℕ
  entries_below (node k f) = forest_entries f

  -- how many there are of these children, and below them
  pub forest_entries : Forest → ℕ
  forest_entries empty = 0
  forest_entries (node_then n f) = entries_below n + forest_entries f + 1
  forest_entries (token_then t f) = forest_entries f + 1

-- how many are below a child; none, if it is a token
abbrev pub entries_under : Term → ℕ
entries_under (Node n) = entries_below n
entries_under (Token t) = 0

-- how many are below the children of a node
abbrev pub entries_deeper : NodeTerm → ℕ
entries_deeper n = sum_by entries_under (node_children n)

-- how many are below the children of the nodes that a count has met
abbrev pub met_deeper : Count → ℕ
met_deeper c = sum_by (λ n. entries_deeper n.now) c.met.items
