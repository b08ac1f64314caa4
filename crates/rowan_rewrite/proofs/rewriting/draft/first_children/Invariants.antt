use Rattle.std.proofs.Common.{◌≡◌, take}
use Rattle.rowan_green.specs.Term.{node_children}
use Rattle.rowan_rewrite.proofs.rewriting.draft.first_children.Given as goal

abbrev pub invariant-loop-index : goal.invariant-loop-index
invariant-loop-index l = l.children.items ≡ take l.index (node_children l.node)
