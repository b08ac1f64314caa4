use Rattle.std.specs.Prelude.{map, drop}
use Rattle.rowan_green.specs.Term.{node_of}
use Rattle.rowan_green.specs.View.{child_term, node_label}
use Rattle.rowan_green.proofs.green.node.GreenNode.from_last.Given as goal

abbrev pub ghost-from_last : goal.ghost-from_last
ghost-from_last a =
    node_label (node_of a.head.kind.0 (map child_term (drop a.first a.items.now.items)))
