-- A pass over the tokens of a tree: which leaves are left, and what tree the rest of the answers
-- make of it. The nodes above the one where it is are listed from the root on.
use Rattle.std.specs.Prelude.{◌≡◌, ℕ, ◌+◌, ◌<◌, List, [], ◌∷◌, ◌++◌, map, take, drop, length, Option}
use Rattle.std.specs.Prelude.{Some, None, Vec, slice_get, nat_eq, if◌then◌else◌}
use Rattle.std.specs.List.{flat_map}
use Rattle.rowan_green.specs.declared.utility_types.NodeOrToken.TheVariants.{Node, Token}
use Rattle.rowan_terms.specs.Path.{Path, LeafAt, below_place, leaves, tokens}
use Rattle.rowan_green.specs.Sizes.{terms_size}
use Rattle.rowan_green.specs.Term.{TokenTerm, NodeTerm, Term, node_of, node_kind, node_children}
use Rattle.rowan_rewrite.specs.declared.rewriting.Rewrite.{Rewrite}
use Rattle.rowan_rewrite.specs.declared.rewriting.draft.Draft.{Draft}
use Rattle.rowan_rewrite.specs.declared.rewriting.pass.Pass.{Pass}
use Rattle.rowan_rewrite.specs.declared.rewriting.pass.Left.{Left}
use Rattle.rowan_rewrite.specs.declared.rewriting.pass.Left.TheVariants.{ToParent, Tree}
use Rattle.rowan_rewrite.specs.Rewriting.{lead, own, first_answer, node_lead, behind_lead, with_front}

-- ---- one node

abbrev pub items_or : {Z : Type 0} → Option (Vec Term Z) → List Term → List Term
items_or None kept = kept
items_or (Some new) kept = new.items

-- what came in the place of the children before the one whose turn it is
abbrev pub done : Draft → List Term
done d = items_or d.changed (take d.next (node_children d.node.now))

-- the new node, or else the old one
abbrev pub closed : NodeTerm → Option NodeTerm → NodeTerm
closed old None = old
closed old (Some new) = new

-- the children from the one on whose turn it is, and those behind it
abbrev pub to_do : Draft → List Term
to_do d = drop d.next (node_children d.node.now)

abbrev pub behind : Draft → List Term
behind d = drop (d.next + 1) (node_children d.node.now)

abbrev pub tokens_in : List Term → List TokenTerm
tokens_in ts = flat_map tokens ts

-- what a child leads with, and what comes in its place behind that
abbrev pub child_lead : Term → List Rewrite → List Term
child_lead (Node n) answers = node_lead n answers
child_lead (Token t) answers = lead (first_answer answers)

abbrev pub new_child : Term → List Rewrite → List Term
new_child (Node n) answers = Node (behind_lead n answers) ∷ []
new_child (Token t) answers = own t (first_answer answers)

-- what comes in the place of these children
abbrev pub rewritten_list : List Term → List Rewrite → List Term
rewritten_list [] answers = []
rewritten_list (t ∷ ts) answers = child_lead t answers
    ++ (new_child t answers ++ rewritten_list ts (drop (length (tokens t)) answers))

-- what the first of them leads with, and what comes behind that
abbrev pub list_lead : List Term → List Rewrite → List Term
list_lead [] answers = []
list_lead (t ∷ ts) answers = child_lead t answers

abbrev pub behind_list : List Term → List Rewrite → List Term
behind_list [] answers = []
behind_list (t ∷ ts) answers =
    new_child t answers ++ rewritten_list ts (drop (length (tokens t)) answers)

-- what the node leads with, and what comes into it, where the child whose turn it is leads with
-- this: of the first child the node leads with it, too
abbrev pub lead_with : Draft → List Term → List Term
lead_with d new = if nat_eq d.next 0 then new else d.lead.items

abbrev pub inside_with : Draft → List Term → List Term
inside_with d new = if nat_eq d.next 0 then [] else new

-- what a node leads with, and the node
abbrev pub Led : Type 0
Led = List Term × NodeTerm

-- the node, with these in place of the child whose turn it is, which leads with `new`, and of those
-- behind it
abbrev pub led : Draft → List Term → List Term → Led
led d new ts =
    (lead_with d new, node_of (node_kind d.node.now) (done d ++ (inside_with d new ++ ts)))

-- the node, once the answers have come
abbrev pub completed : Draft → List Rewrite → Led
completed d answers = led d (list_lead (to_do d) answers) (behind_list (to_do d) answers)

-- ---- the nodes above

-- the tokens behind these nodes, after those inside
abbrev pub tokens_behind : List Draft → List TokenTerm → List TokenTerm
tokens_behind [] inside = inside
tokens_behind (d ∷ ds) inside = tokens_behind ds inside ++ tokens_in (behind d)

-- the leaves of children, from a place on
abbrev pub leaves_at : ℕ → List Term → List LeafAt
leaves_at i [] = []
leaves_at i (t ∷ ts) = map (below_place i) (leaves t) ++ leaves_at (i + 1) ts

-- the leaves behind these nodes, after those inside; their paths begin at the first of the nodes
abbrev pub leaves_behind : List Draft → List LeafAt → List LeafAt
leaves_behind [] inside = inside
leaves_behind (d ∷ ds) inside =
    map (below_place d.next) (leaves_behind ds inside) ++ leaves_at (d.next + 1) (behind d)

-- the path from the first of these nodes to the one below them
abbrev pub way : List Draft → Path
way ds = map (λ d. d.next) ds

-- the tree round a node, which the answers for the tokens inside it make
abbrev pub whole : List Draft → (List Rewrite → Led) → List TokenTerm → List Rewrite → Led
whole [] inner inside answers = inner answers
whole (d ∷ ds) inner inside answers =
    let child = whole ds inner inside answers in
    led d child.0 (Node child.1
    ∷ rewritten_list (behind d) (drop (length (tokens_behind ds inside)) answers))

-- the first of these nodes, or else the one below them
abbrev pub top : List Draft → NodeTerm → NodeTerm
top [] n = n
top (d ∷ ds) n = d.node.now

-- the child whose turn it is in each node is the next node
abbrev pub AreOpen : List Draft → NodeTerm → Type 0
AreOpen [] n = Unit {0}
AreOpen (d ∷ ds) n =
    (slice_get (node_children d.node.now) d.next ≡ Some (Node (top ds n))) × AreOpen ds n

abbrev pub work_behind : List Draft → ℕ
work_behind [] = 0
work_behind (d ∷ ds) = terms_size (behind d) + 1 + work_behind ds

-- ---- the pass

-- a node leads with nothing before its first child has had its turn
abbrev pub LeadsLater : Draft → Type 0
LeadsLater d = d.next ≡ 0 → d.lead.items ≡ []

abbrev pub IsPass : Pass → Type 0
IsPass p = AreOpen p.above.items p.inner.node.now × LeadsLater p.inner

abbrev pub child_of : Pass → Option Term
child_of p = slice_get (node_children p.inner.node.now) p.inner.next

-- the root of the tree that is rewritten
abbrev pub root_of : Pass → NodeTerm
root_of p = top p.above.items p.inner.node.now

-- the path of the child whose turn it is
abbrev pub place_of : Pass → Path
place_of p = way p.above.items ++ p.inner.next ∷ []

-- the leaves that are left
abbrev pub left_of : Pass → List LeafAt
left_of p = leaves_behind p.above.items (leaves_at p.inner.next (to_do p.inner))

-- the tree, once the answers for them have come
abbrev pub tree_of : Pass → List Rewrite → NodeTerm
tree_of p answers =
    let all = whole p.above.items (completed p.inner) (tokens_in (to_do p.inner)) answers in
    with_front all.0 all.1

abbrev pub work_left : Pass → ℕ
work_left p = work_behind p.above.items + (terms_size (to_do p.inner) + 1)

-- the pass goes on, and no token has had its turn
pub record Continues (old new : Pass) : Type 0 where
  pub pass : IsPass new
  pub root : root_of old ≡ root_of new
  pub left : left_of old ≡ left_of new
  pub tree : (more : List Rewrite) → tree_of old more ≡ tree_of new more
  pub work : work_left new < work_left old

-- a token has had its turn, with this answer
pub record Takes (t : TokenTerm) (answer : Rewrite) (old new : Pass) : Type 0 where
  pub pass : IsPass new
  pub root : root_of old ≡ root_of new
  pub left : left_of old ≡ (place_of old, t) ∷ left_of new
  pub tree : (more : List Rewrite) → tree_of old (answer ∷ more) ≡ tree_of new more
  pub work : work_left new < work_left old

-- the pass is at its end, with this root
pub record Ends (old : Pass) (root : NodeTerm) : Type 0 where
  pub left : left_of old ≡ []
  pub tree : (more : List Rewrite) → tree_of old more ≡ root

-- what comes of a pass when a node is done
abbrev pub Leaves : Pass → Left → Type 0
Leaves old (ToParent new) = Continues old new
Leaves old (Tree root) = Ends old root
