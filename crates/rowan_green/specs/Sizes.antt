-- How large a list of children is, at every level: 1 for each child, and 1 more where it is a node.
use Rattle.std.specs.Prelude.{ℕ, ◌+◌, List, [], ◌∷◌, map}
use Rattle.rowan_green.specs.declared.utility_types.NodeOrToken.TheVariants.{Node, Token}
use Rattle.rowan_green.specs.declared.green.node.GreenChild.{GreenChild}
use Rattle.rowan_green.specs.declared.green.node.block.ChildBlock.{ChildBlock}
use Rattle.std.specs.Mem.{manually_drop_value}
use Rattle.std.specs.declared.mem.ManuallyDrop.{ManuallyDrop}
use Rattle.rowan_green.specs.Term.{Term, node_size}
use Rattle.rowan_green.specs.View.{child_term}

abbrev pub term_size : Term → ℕ
term_size (Node n) = node_size n + 1
term_size (Token t) = 1

abbrev pub terms_size : List Term → ℕ
terms_size [] = 0
terms_size (t ∷ ts) = term_size t + terms_size ts

abbrev pub children_size : List GreenChild → ℕ
children_size cs = terms_size (map child_term cs)

-- how large the blocks of a list are together: 1 for each, and its children
abbrev pub kept_size : List (ManuallyDrop ChildBlock) → ℕ
kept_size [] = 0
kept_size (b ∷ bs) = children_size (manually_drop_value b).block.list.items + 1 + kept_size bs
