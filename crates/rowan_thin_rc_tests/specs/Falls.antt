-- A node's children are smaller than the node.
use Rattle.std.specs.Prelude.{◌≤◌, ◌+◌, List, [], ◌∷◌}
use Rattle.std.proofs.Common.{arith}
use denote.Param.Weighed.{most}
use Rattle.rowan_thin_rc.specs.declared.header_slice.HeaderSlice.{HeaderSlice}
use Rattle.std.specs.Global.{Global}
use Rattle.rowan_thin_rc_tests.specs.declared.Head.{Head}
use Rattle.rowan_thin_rc_tests.specs.declared.Child.{Child}
use Rattle.rowan_thin_rc_tests.specs.declared.Child.TheVariants.{Node, Leaf}
use Rattle.rowan_thin_rc_tests.specs.declared.Node.TheDeep.{deep-Child}
use Rattle.rowan_thin_rc_tests.specs.View.{node_view, children_view, child_view}

deep_le : (c : Child) → deep-Child c ≤ (child_view c).0 + 1
deep_le (Node n) = omega arith
deep_le (Leaf k) = omega arith

most_le : (cs : List Child) → most deep-Child cs ≤ (children_view cs).0
most_le [] = omega arith
most_le (c ∷ cs) = omega (arith, deep_le c, most_le cs)

pub falls : (f : HeaderSlice Head Child Global) → most deep-Child f.tail.items ≤ (node_view f).0
falls f = most_le f.tail.items
