-- What stands in a node that is being edited, and in all nodes around it.
use Rattle.std.specs.Prelude.{List, [], ◌∷◌, ◌++◌, take, map, reverse}
use Rattle.rowan_green.specs.declared.utility_types.NodeOrToken.TheVariants.{Node}
use Rattle.rowan_terms.specs.Path.{Path}
use Rattle.rowan_green.specs.Term.{NodeTerm, Term, node_of, node_kind, node_children}
use Rattle.rowan_changes.specs.declared.open_node.OpenNode.{OpenNode}

-- those that are kept, and then those that are done, of which the last one stands first
abbrev pub closed_children : OpenNode → List Term
closed_children n = take n.kept (node_children n.node.now) ++ reverse n.done.items

-- the node with its new children
abbrev pub closed : OpenNode → NodeTerm
closed n = node_of (node_kind n.node.now) (closed_children n)

-- the node around a child, which stands between those that are kept and those that are done
abbrev pub around : OpenNode → Term → Term
around n t = Node (node_of (node_kind n.node.now)
    (take n.kept (node_children n.node.now) ++ t ∷ reverse n.done.items))

-- the nodes around a term, the outermost first
abbrev pub around_all : List OpenNode → Term → Term
around_all [] t = t
around_all (n ∷ ns) t = around n (around_all ns t)

-- the path of what stands in these nodes
abbrev pub path_below : List OpenNode → Path
path_below ns = map (λ n. n.kept) ns
