use Rattle.std.proofs.Common.{◌≡◌, ◌≤◌, true, Option}
use Rattle.rowan_green.specs.Steps.{Tally}
use Rattle.rowan_table.specs.Cursor.{Cursor}
use Rattle.rowan_table.specs.Moves.{is_node_at}
use Rattle.rowan_api.specs.Refs.{node_place}
use Rattle.rowan.specs.Pointer.{means_kind}
use Rattle.rowan.proofs.ChainLemmas.{size_at}
use Rattle.rowan.proofs.PointerLemmas.{Search}
use Rattle.rowan.proofs.ast.syntax_node_ptr.SyntaxNodePtr+L.try_to_node_ref_counted.Given as goal

-- what a search from the node that is reached finds, the search from the root finds, with the steps
-- that were made
abbrev pub invariant-loop-self : goal.invariant-loop-self
invariant-loop-self g l =
    let means = means_kind g.L.Language.meaning g.L.Kind.PartialEq.eq l.self.kind in
    let node = node_place l.node in
    let root = node_place l.fn.root in
    (is_node_at node.root node.path ≡ true)
    × ((found : Option Cursor) (last : Tally)
    → Search means l.self.range node.root node.path found l.steps last
    → Search means l.self.range root.root root.path found l.fn.steps last)
    × (l.fn.steps.comparisons ≤ l.steps.comparisons)
    × (l.fn.steps.visits ≤ l.steps.visits)

abbrev pub decreases-loop-self : goal.decreases-loop-self
decreases-loop-self g l = size_at (node_place l.node).root (node_place l.node).path
