-- A node is larger than its children together, and a list of children than each of them.
use Rattle.std.proofs.Common.{◌≡◌, ℕ, ◌+◌, ◌≤◌, ◌<◌, zero, suc, List, [], ◌∷◌, ◌++◌, length, get_or}
use Rattle.std.proofs.Common.{map, refl, ap, arith}
use Rattle.rowan_green.specs.declared.green.node.GreenChild.{GreenChild}
use Rattle.rowan_green.specs.declared.green.node.block.ChildBlock.{ChildBlock}
use Rattle.rowan_green.specs.Term.{NodeTerm, node, Forest, empty, node_then, token_then}
use Rattle.rowan_green.specs.Term.{node_children, node_size, forest_size, terms}
use Rattle.rowan_green.specs.View.{child_term}
use Rattle.rowan_green.specs.Sizes.{term_size, terms_size, children_size, kept_size}
use Rattle.std.specs.Mem.{manually_drop_value}
use Rattle.std.specs.declared.mem.ManuallyDrop.{ManuallyDrop}

terms_size-terms : (f : Forest) → terms_size (terms f) ≡ forest_size f
terms_size-terms empty = refl
terms_size-terms (node_then n f) = omega (arith, terms_size-terms f)
terms_size-terms (token_then t f) = omega (arith, terms_size-terms f)

pub terms_size-node_children : (n : NodeTerm) → terms_size (node_children n) + 1 ≡ node_size n
terms_size-node_children (node k f) = omega (arith, terms_size-terms f)

pub children_size-append : (cs ds : List GreenChild)
    → children_size (cs ++ ds) ≡ children_size cs + children_size ds
children_size-append [] ds = omega arith
children_size-append (c ∷ cs) ds = omega (arith, children_size-append cs ds)

kept_size-append : (bs cs : List (ManuallyDrop ChildBlock))
    → kept_size (bs ++ cs) ≡ kept_size bs + kept_size cs
kept_size-append [] cs = omega arith
kept_size-append (b ∷ bs) cs = omega (arith, kept_size-append bs cs)

-- the last of a list left it, or came to it
pub kept-last : (short long : List (ManuallyDrop ChildBlock)) (b : ManuallyDrop ChildBlock)
    → long ≡ short ++ b ∷ [] → kept_size long ≡ kept_size short
    + children_size (manually_drop_value b).block.list.items + 1
kept-last short long b e = omega (arith, ap kept_size e, kept_size-append short (b ∷ []))

pub children_size-last : (short long : List GreenChild) (c : GreenChild) → long ≡ short ++ c ∷ []
    → children_size long ≡ children_size short + term_size (child_term c)
children_size-last short long c e =
    omega (arith, ap children_size e, children_size-append short (c ∷ []))

pub term_size_le-children_size : (cs : List GreenChild) (i : ℕ) (d : GreenChild) → i < length cs
    → term_size (child_term (get_or cs i d)) ≤ children_size cs
term_size_le-children_size [] i d h = absurd (omega arith)
term_size_le-children_size (c ∷ cs) zero d h = omega arith
term_size_le-children_size (c ∷ cs) (suc i) d h =
    omega (arith, term_size_le-children_size cs i d (omega arith))

-- the children of a node are smaller than it by 1
pub children_size-node : (cs : List GreenChild) (n : NodeTerm) → map child_term cs ≡ node_children n
    → children_size cs + 1 ≡ node_size n
children_size-node cs n e = omega (arith, ap terms_size e, terms_size-node_children n)
