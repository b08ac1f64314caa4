-- A node's children are smaller than the node.
use Rattle.std.specs.Prelude.{◌≤◌, ◌+◌, List, [], ◌∷◌, map}
use Rattle.std.proofs.Common.{arith}
use denote.Param.Weighed.{most}
use Rattle.rowan_green.specs.declared.utility_types.NodeOrToken.TheVariants as element
use Rattle.rowan_green.specs.declared.green.node.GreenNode.TheInside.{Inside}
use Rattle.rowan_green.specs.declared.green.node.GreenChild.{GreenChild}
use Rattle.rowan_green.specs.declared.green.node.GreenChild.TheVariants.{Node, Token}
use Rattle.rowan_green.specs.declared.green.node.GreenNode.TheDeep.{deep-GreenNode, deep-GreenChild}
use Rattle.rowan_green.specs.Term.{Term, node_size, forest_size, forest, put_first, empty}
use Rattle.rowan_green.specs.View.{node_view, child_term}

deep_le-term : (c : GreenChild)
    → deep-GreenChild c ≤ forest_size (put_first (child_term c) empty) + 1
deep_le-term (Node at n) = omega arith
deep_le-term (Token at t) = omega arith

forest_size-put_first : (t : Term) (cs : List GreenChild) → let f = forest (map child_term cs) in
    forest_size (put_first t empty) + forest_size f ≤ forest_size (put_first t f)
forest_size-put_first (element.Node n) cs = omega arith
forest_size-put_first (element.Token t) cs = omega arith

most_le-forest_size : (cs : List GreenChild)
    → most deep-GreenChild cs ≤ forest_size (forest (map child_term cs)) + 1
most_le-forest_size [] = omega arith
most_le-forest_size (c ∷ cs) =
    omega (arith, deep_le-term c, most_le-forest_size cs, forest_size-put_first (child_term c) cs)

pub deep_le-node_size : (n : Inside) → deep-GreenNode n ≤ node_size (node_view n.data.value)
deep_le-node_size n = omega (arith, most_le-forest_size n.data.value.tail.items)
