use Rattle.std.proofs.Common.{Option}
use Rattle.std.specs.Prelude.{Result}
use Rattle.rowan_green.specs.declared.fault.Fault.{Fault}
use Rattle.rowan_table.specs.Cursor.{Cursor}
use Rattle.rowan_table.specs.Yields.{Rest, count_of}
use Rattle.rowan.specs.Ast.{casts_at, YieldsWrappers}
use Rattle.rowan.proofs.ast.children.AstChildrenIterator.next.Given as goal

-- what comes next of the nodes that are left came next of those at the start
abbrev pub invariant-loop-node : goal.invariant-loop-node
invariant-loop-node g l =
    let casts = casts_at g.N.Language.Language.meaning g.N.AstNode.casts in
    (o : Option (Result g.row.N.Denot Fault)) (after : Rest Cursor)
    → YieldsWrappers casts g.N.AstNode.node_of l.self-inside.nodes o after
    → YieldsWrappers casts g.N.AstNode.node_of l.fn.self o after

abbrev pub decreases-loop-node : goal.decreases-loop-node
decreases-loop-node g l = count_of l.self-inside.nodes
