use Rattle.rowan.proofs.ChainLemmas.{size_at}
use Rattle.rowan_tool.specs.Ancestors.{path_below}
use Rattle.rowan_tool.proofs.AncestorLemmas.{IsDescending}
use Rattle.rowan_tool.proofs.sexp.reparse.list_at.Given as goal

-- the way has come to a node, below those that are kept
abbrev pub invariant-loop-node : goal.invariant-loop-node
invariant-loop-node l = IsDescending l.fn.green l.fn.range l.ancestors.items l.node l.within

abbrev pub decreases-loop-node : goal.decreases-loop-node
decreases-loop-node l = size_at l.fn.green (path_below l.ancestors.items)
