use Rattle.std.proofs.Common.{length}
use Rattle.rowan_green.specs.Fits.{FitsNode}
use Rattle.rowan_tool.proofs.AncestorLemmas.{IsClimbing}
use Rattle.rowan_tool.proofs.sexp.reparse.with_list.Given as goal

-- the new node, below the nodes that are left, makes the same tree as the list below all of them
abbrev pub invariant-loop-ancestor : goal.invariant-loop-ancestor
invariant-loop-ancestor l = IsClimbing l.fn.ancestors.items l.fn.list l.ancestors.items l.green
    × FitsNode l.green

abbrev pub decreases-loop-ancestor : goal.decreases-loop-ancestor
decreases-loop-ancestor l = length l.ancestors.items
