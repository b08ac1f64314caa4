use Rattle.std.proofs.Common.{◌≡◌, ◌++◌, take, map}
use Rattle.rowan_green.specs.View.{child_term}
use Rattle.rowan_green.proofs.green.node.NodeDraft.push_shared.Given as goal

abbrev pub invariant-loop-child : goal.invariant-loop-child
invariant-loop-child l = l.self ≡ l.initial.self ++ map child_term (take l.child-index l.children)
