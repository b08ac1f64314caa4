-- The table of a tree: an entry for each of its nodes and tokens, the root first.
--     The children of a node stand side by side in their order, behind the node itself.
--     An entry knows the number of its parent, and where its text starts. That of a node knows,
--     too, which of the nodes it is: they stand in a list of their own, in the order in which their
--     children got entries, with the numbers of their first children. The table keeps no token: a
--     token is found among the children of its parent.
--     The path of an entry is read off by going up: from parent to parent, to the root.
-- All facts are local: each speaks of one entry, or of an entry and its parent.
use Rattle.std.specs.Prelude.{◌≡◌, ℕ, zero, suc, ◌+◌, ◌-◌, ◌<◌, ◌≤◌, List, [], ◌∷◌, ◌++◌, map}
use Rattle.std.specs.Prelude.{length, take, reverse, Some, Option, None, slice_get}
use Rattle.std.specs.List.{sum_by}
use Rattle.std.specs.Option.{option_map, option_map_or}
use Rattle.rowan_green.specs.declared.utility_types.NodeOrToken.TheVariants.{Node}
use Rattle.rowan_green.specs.Fits.{byte_limit}
use Rattle.rowan_green.specs.Lent.{into_node}
use Rattle.rowan_green.specs.Search.{child_start}
use Rattle.rowan_green.specs.Term.{NodeTerm, node, empty, Term, node_children, node_len}
use Rattle.rowan_terms.specs.Path.{Path, subterm, offset, len_of}
use Rattle.rowan_table.specs.Cursor.{last_index}
use Rattle.rowan_table.specs.Moves.{child_paths, numbers}
use Rattle.rowan_table.specs.declared.table.entry.Entry.{Entry}
use Rattle.rowan_table.specs.Nodes.{Inner}

-- what a table tells of a node or token: the node, or none of a token; where its text starts; and
-- the numbers of its parent and of a node's first child
pub record Facts : Type 0 where
  pub green : Option NodeTerm
  pub start : ℕ
  pub parent : ℕ
  pub first_child : ℕ

-- the node with this number among the nodes, where there is a number
abbrev pub inner_at : List Inner → Option ℕ → Option Inner
inner_at ns None = None
inner_at ns (Some k) = slice_get ns k

-- what an entry tells, with the node that it names
abbrev pub entry_facts : Entry → Option Inner → Facts
entry_facts e x = record {
  green = option_map (λ n. n.green) x;
  start = e.start;
  parent = e.parent;
  first_child = option_map_or (λ n. n.first_child) x 0;
}

-- what an entry tells, over the list of the nodes
abbrev pub facts_of : List Inner → Entry → Facts
facts_of ns e = entry_facts e (inner_at ns e.node)

-- what all entries tell
abbrev pub all_facts : List Inner → List Entry → List Facts
all_facts ns es = map (facts_of ns) es

-- the node of an entry; none of that of a token
abbrev pub green_of : Facts → Option NodeTerm
green_of e = e.green

-- the children of a node; a token has none
abbrev pub children_in : Option NodeTerm → List Term
children_in None = []
children_in (Some n) = node_children n

-- the children of an entry's node
abbrev pub entry_children : Facts → List Term
entry_children e = children_in (green_of e)

-- the length of a node
abbrev pub len_in : Option NodeTerm → ℕ
len_in None = 0
len_in (Some n) = node_len n

-- the node, or an empty one where there is none
abbrev pub node_in : Option NodeTerm → NodeTerm
node_in None = node 0 empty
node_in (Some n) = n

-- the node of the first entry
abbrev pub root_node : List Facts → NodeTerm
root_node [] = node 0 empty
root_node (e ∷ es) = node_in (green_of e)

-- how many children these nodes have together
abbrev pub child_counts : List Inner → ℕ
child_counts ns = sum_by (λ n. length (node_children n.green)) ns

-- an entry's index among its siblings: how far it stands behind the first child of its parent
abbrev pub entry_index : List Facts → ℕ → Facts → ℕ
entry_index es n e = n - option_map_or (λ p. p.first_child) (slice_get es e.parent) 0

-- the path of an entry, found by going up at most so many times
abbrev pub path_within : ℕ → List Facts → ℕ → Path
path_within zero es n = []
path_within (suc steps) es zero = []
path_within (suc steps) es (suc n) =
    option_map_or (λ e. path_within steps es e.parent ++ entry_index es (suc n) e ∷ [])
    (slice_get es (suc n)) []

-- the path of the entry with this number; a parent's number is less than its child's
abbrev pub entry_path : List Facts → ℕ → Path
entry_path es n = path_within n es n

-- the first entry is that of a root, and its children stand behind it
pub record IsTop (es : List Facts) (e : Facts) : Type 0 where
  pub green : green_of e ≡ Some (root_node es)
  pub start : e.start ≡ 0
  pub first : 0 < e.first_child

-- entry e, with the number n, is a child of entry p
pub record IsChildOf (p : Facts) (n : ℕ) (e : Facts) : Type 0 where
  pub place : p.first_child ≤ n
  pub child :
      option_map into_node (slice_get (entry_children p) (n - p.first_child)) ≡ Some (green_of e)
  pub start : e.start ≡ p.start + child_start (entry_children p) (n - p.first_child)

-- this number is among those of an entry's children, which go up from that of the first
pub record IsAmong (e : Facts) (n : ℕ) : Type 0 where
  pub from : e.first_child ≤ n
  pub to : n < e.first_child + length (entry_children e)

-- a table: each entry but the first is a child of an entry before it, and all children of each are
-- there, side by side
pub record IsTable (es : List Facts) : Type 0 where
  pub some : 0 < length es
  pub top : (e : Facts) → slice_get es 0 ≡ Some e → IsTop es e
  pub ends : (n : ℕ) (e : Facts) → slice_get es n ≡ Some e
      → e.start + len_in (green_of e) ≤ byte_limit
  pub earlier : (n : ℕ) (e : Facts) → slice_get es n ≡ Some e → 0 < n → e.parent < n
  pub parents : (n : ℕ) (e p : Facts) → slice_get es n ≡ Some e
      → 0 < n → slice_get es e.parent ≡ Some p → IsChildOf p n e
  pub rows : (n : ℕ) (e : Facts) → slice_get es n ≡ Some e
      → e.first_child + length (entry_children e) ≤ length es
  pub owned : (n m : ℕ) (e c : Facts) → slice_get es n ≡ Some e → slice_get es m ≡ Some c
      → IsAmong e m → (0 < m) × (c.parent ≡ n)

-- the nodes that these entries name: each entry's is there, the children of each stand behind those
-- of the nodes before, and there are no entries but theirs and the root's
pub record AreNodes (ns : List Inner) (es : List Entry) : Type 0 where
  pub there : (n : ℕ) (e : Entry) (k : ℕ) → slice_get es n ≡ Some e → e.node ≡ Some k
      → k < length ns
  pub firsts : (k : ℕ) (x : Inner) → slice_get ns k ≡ Some x
      → x.first_child ≡ child_counts (take k ns) + 1
  pub all : length es ≡ child_counts ns + 1

-- the entries from one number up to another stand at these paths, in this order
pub record IsRow (es : List Facts) (start end : ℕ) (paths : List Path) : Type 0 where
  pub order : start ≤ end
  pub within : end ≤ length es
  pub row : map (entry_path es) (numbers start (end - start)) ≡ paths

-- the entries from one number up to another stand at these paths, from the last on
pub record IsRowBack (es : List Facts) (start end : ℕ) (paths : List Path) : Type 0 where
  pub order : start ≤ end
  pub within : end ≤ length es
  pub row : reverse (map (entry_path es) (numbers start (end - start))) ≡ paths

-- where an entry's parent stands, if it is not the root
pub record IsBelow (es : List Facts) (n : ℕ) (e : Facts) : Type 0 where
  pub earlier : e.parent < n
  pub path : entry_path es n ≡ entry_path es e.parent ++ entry_index es n e ∷ []

-- an entry has this number, and tells of what stands at its path in the root
pub record Describes (es : List Facts) (n : ℕ) (e : Facts) : Type 0 where
  pub at : slice_get es n ≡ Some e
  pub green :
      option_map into_node (subterm (Node (root_node es)) (entry_path es n)) ≡ Some (green_of e)
  pub start : offset (Node (root_node es)) (entry_path es n) ≡ e.start
  pub end : e.start + len_of (subterm (Node (root_node es)) (entry_path es n)) ≤ byte_limit
  pub index : last_index (entry_path es n) ≡ entry_index es n e
  pub below : 0 < n → IsBelow es n e
  pub children :
      IsRow es e.first_child (e.first_child + length (entry_children e))
      (child_paths (root_node es) (entry_path es n))
