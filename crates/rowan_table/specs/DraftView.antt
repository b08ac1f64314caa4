-- A draft: a table that is still to be filled. A node that has an entry waits for its place among
-- the nodes, and for the entries of its children, which it gets together. Those that wait stand in
-- a list, and the last is the next. What is known of a draft stays true while it grows: entries are
-- only added, and an entry that names a place names it for good.
use Rattle.std.specs.Prelude.{◌≡◌, ℕ, ◌+◌, ◌-◌, ◌<◌, ◌≤◌, nat_eq, List, [], ◌∷◌, ◌++◌, map, length}
use Rattle.std.specs.Prelude.{take, Option, Some, None, slice_get}
use Rattle.std.specs.List.{sum_by, IsDistinct}
use Rattle.std.specs.Option.{option_map}
use Rattle.std.specs.Vec.{vec_len, vec_capacity}
use Rattle.rowan_green.specs.Fits.{byte_limit}
use Rattle.rowan_green.specs.Lent.{into_node}
use Rattle.rowan_green.specs.Search.{child_start}
use Rattle.rowan_green.specs.Sizes.{term_size, terms_size}
use Rattle.rowan_green.specs.Term.{Term, NodeTerm, node, empty, node_children}
use Rattle.rowan_table.specs.declared.table.entry.Entry.{Entry}
use Rattle.rowan_table.specs.Nodes.{Inner}
use Rattle.rowan_table.specs.declared.table.draft.Draft.{Draft}
use Rattle.rowan_table.specs.declared.table.draft.Waiting.{Waiting}
use Rattle.rowan_table.specs.Table.{child_counts, len_in}

-- the root: the first node that has its place, or else the first that waits for one
abbrev pub first_node : List Inner → List Waiting → NodeTerm
first_node [] [] = node 0 empty
first_node [] (w ∷ ws) = w.node.now
first_node (x ∷ ns) ws = x.green

-- the node of entry n, of which the greens tell, has place k among the nodes
pub record HasPlace (greens : List (Option NodeTerm)) (ns : List Inner) (n k : ℕ) : Type 0 where
  pub inner : Inner
  pub at : slice_get ns k ≡ Some inner
  pub green : slice_get greens n ≡ Some (Some inner.green)

-- the node of entry n is among those that wait
pub record IsAwaited (ws : List Waiting) (n : ℕ) : Type 0 where
  pub index : ℕ
  pub waiting : Waiting
  pub at : slice_get ws index ≡ Some waiting
  pub number : waiting.number ≡ n

-- the number of the entry of a node that waits
abbrev pub entry_number : Waiting → ℕ
entry_number w = w.number

-- a node that waits has an entry, which names no place yet
pub record HasEntry (greens : List (Option NodeTerm)) (es : List Entry) (w : Waiting) : Type 0 where
  pub entry : Entry
  pub at : slice_get es w.number ≡ Some entry
  pub start : entry.start ≡ w.start
  pub bare : entry.node ≡ None
  pub green : slice_get greens w.number ≡ Some (Some w.node.now)

-- entry c, with the number n, is that of a child: its parent's entry stands before it and names the
-- place of a node, and it is the child of that node which stands so far behind the first one
pub record IsChildEntry (greens : List (Option NodeTerm)) (es : List Entry) (ns : List Inner)
    (n : ℕ) (c : Entry) : Type 0 where
  pub above : Entry
  pub at : slice_get es c.parent ≡ Some above
  pub earlier : c.parent < n
  pub place : ℕ
  pub named : above.node ≡ Some place
  pub inner : Inner
  pub node : slice_get ns place ≡ Some inner
  pub from : inner.first_child ≤ n
  pub child : option_map into_node (slice_get (node_children inner.green) (n - inner.first_child))
      ≡ slice_get greens n
  pub start : c.start ≡ above.start + child_start (node_children inner.green)
      (n - inner.first_child)

-- the first entry is that of the root
pub record IsRootEntry (root : NodeTerm) (greens : List (Option NodeTerm)) (e : Entry) : Type 0
  where
    pub start : e.start ≡ 0
    pub green : slice_get greens 0 ≡ Some (Some root)

-- these are the entries of a draft, the nodes that have their places, and those that wait for them
pub record AreFilled (es : List Entry) (ns : List Inner) (ws : List Waiting) : Type 0 where
  -- the node of each entry; none of that of a token
  pub greens : List (Option NodeTerm)
  pub count : length greens ≡ length es
  pub some : 0 < length es
  pub fewer : length ns + length ws ≤ length es
  pub root : (e : Entry) → slice_get es 0 ≡ Some e → IsRootEntry (first_node ns ws) greens e
  pub ends : (n : ℕ) (e : Entry) (g : Option NodeTerm) → slice_get es n ≡ Some e
      → slice_get greens n ≡ Some g → e.start + len_in g ≤ byte_limit
  pub named : (n k : ℕ) (e : Entry) → slice_get es n ≡ Some e → e.node ≡ Some k
      → HasPlace greens ns n k
  pub once : (n m k : ℕ) (e d : Entry) → slice_get es n ≡ Some e → slice_get es m ≡ Some d
      → e.node ≡ Some k → d.node ≡ Some k → n ≡ m
  pub bare : (n : ℕ) (e : Entry) (g : NodeTerm) → slice_get es n ≡ Some e → e.node ≡ None
      → slice_get greens n ≡ Some (Some g) → IsAwaited ws n
  pub waits : (i : ℕ) (w : Waiting) → slice_get ws i ≡ Some w → HasEntry greens es w
  pub apart : IsDistinct nat_eq (map entry_number ws)
  pub firsts : (k : ℕ) (x : Inner) → slice_get ns k ≡ Some x
      → x.first_child ≡ child_counts (take k ns) + 1
  pub children : (n : ℕ) (c : Entry) → slice_get es n ≡ Some c → 0 < n
      → IsChildEntry greens es ns n c

-- so the lists of a draft are filled
abbrev pub IsFilled : Draft → Type 0
IsFilled d = AreFilled d.entries.items d.nodes d.waiting.items

-- the same, where one node more waits: the next, which was taken out
abbrev pub IsFilledWith : Draft → Waiting → Type 0
IsFilledWith d w = AreFilled d.entries.items d.nodes (d.waiting.items ++ w ∷ [])

-- the children of the nodes that have their places have entries, and besides them only the root
abbrev pub HasTheirs : Draft → Type 0
HasTheirs d = length d.entries.items ≡ child_counts d.nodes + 1

-- the root of a draft
abbrev pub draft_root : Draft → NodeTerm
draft_root d = first_node d.nodes d.waiting.items

-- the same, where one node more waits: the next
abbrev pub draft_root_with : Draft → Waiting → NodeTerm
draft_root_with d w = first_node d.nodes (d.waiting.items ++ w ∷ [])

-- a node that has its place, and whose child at index i is the next to get an entry
pub record IsNextIndex (d : Draft) (w : Waiting) (i : ℕ) : Type 0 where
  pub entry : Entry
  pub at : slice_get d.entries.items w.number ≡ Some entry
  pub start : entry.start ≡ w.start
  pub place : ℕ
  pub named : entry.node ≡ Some place
  pub inner : Inner
  pub node : slice_get d.nodes place ≡ Some inner
  pub green : inner.green ≡ w.node.now
  pub next : length d.entries.items ≡ inner.first_child + i

-- how much is below nodes that wait
abbrev pub waiting_size : List Waiting → ℕ
waiting_size ws = sum_by (λ w. 1 + terms_size (node_children w.node.now)) ws

-- how much is below those of a draft
abbrev pub size_left : Draft → ℕ
size_left d = waiting_size d.waiting.items

-- the same, where one node more waits: the next
abbrev pub size_left_with : Draft → Waiting → ℕ
size_left_with d w = waiting_size (d.waiting.items ++ w ∷ [])

-- the last of those that waited was taken out, and nothing else has changed
pub record IsTaken (old new : Draft) (w : Waiting) : Type 0 where
  pub waiting : old.waiting.items ≡ new.waiting.items ++ w ∷ []
  pub entries : new.entries.items ≡ old.entries.items
  pub nodes : new.nodes ≡ old.nodes

-- the child at index i of a node has got its entry
pub record AddsChild (old new : Draft) (n : NodeTerm) (i : ℕ) : Type 0 where
  pub child : Term
  pub at : slice_get (node_children n) i ≡ Some child
  pub entry : Entry
  pub entries : new.entries.items ≡ old.entries.items ++ entry ∷ []
  pub nodes : new.nodes ≡ old.nodes
  pub more : length old.waiting.items ≤ length new.waiting.items
  pub filled : IsFilled new
  pub root : draft_root new ≡ draft_root old
  pub size : size_left new ≤ size_left old + term_size child

-- there is room for so many more entries
pub record HasRoom (d : Draft) (count : ℕ) : Type 0 where
  pub entries : vec_len d.entries + count ≤ vec_capacity d.entries

-- one place was taken of the room, at most
abbrev pub TakesPlace : Draft → Draft → Type 0
TakesPlace old new = (count : ℕ) → HasRoom old (count + 1) → HasRoom new count

-- nothing has changed but the room
pub record IsKept (old new : Draft) : Type 0 where
  pub entries : new.entries.items ≡ old.entries.items
  pub nodes : new.nodes ≡ old.nodes
  pub waiting : new.waiting.items ≡ old.waiting.items

-- nothing has changed but the room, and no node waits
pub record IsDone (old new : Draft) : Type 0 where
  pub kept : IsKept old new
  pub none : new.waiting.items ≡ []
