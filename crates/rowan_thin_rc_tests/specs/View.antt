-- What a node says: how large its tree is, and the leaves.
use Rattle.std.specs.Prelude.{ℕ, ◌+◌, List, [], ◌∷◌, ◌++◌}
use Rattle.std.specs.Mem.{manually_drop_value}
use Rattle.std.specs.declared.mem.ManuallyDrop.{ManuallyDrop}
use Rattle.rowan_thin_rc.specs.declared.header_slice.HeaderSlice.{HeaderSlice}
use Rattle.std.specs.Global.{Global}
use Rattle.rowan_thin_rc_tests.specs.declared.Head.{Head}
use Rattle.rowan_thin_rc_tests.specs.declared.Child.{Child}
use Rattle.rowan_thin_rc_tests.specs.declared.Child.TheVariants.{Node, Leaf}

-- of a child
abbrev pub child_view : Child → ℕ × List ℕ
child_view (Node n) = n
child_view (Leaf k) = (1, k ∷ [])

-- of a list of children
abbrev pub children_view : List Child → ℕ × List ℕ
children_view [] = (1, [])
children_view (c ∷ cs) =
    ((child_view c).0 + (children_view cs).0 + 1, (child_view c).1 ++ (children_view cs).1)

abbrev pub node_view : HeaderSlice Head Child Global → ℕ × List ℕ
node_view f = children_view f.tail.items

abbrev pub leaves_of : ℕ × List ℕ → List ℕ
leaves_of v = v.1

-- how large the trees in a list are
abbrev pub kept_size : List (ManuallyDrop (ℕ × List ℕ)) → ℕ
kept_size [] = 0
kept_size (m ∷ ms) = (manually_drop_value m).0 + kept_size ms
