use Rattle.std.specs.Prelude.{map}
use Rattle.rowan_green.specs.Term.{node_of}
use Rattle.rowan_green.specs.View.{child_term, node_label}
use Rattle.rowan_green.proofs.green.node.NodeDraft.finish.Given as goal

abbrev pub ghost-close : goal.ghost-close
ghost-close a =
    node_label (node_of a.head.kind.0 (map child_term a.self.block.list.items))
