-- A printed tree or the JSON of a tree in the making: the nodes that are open, from the root on,
-- each with the place of the child that comes next.
use Rattle.std.specs.Prelude.{◌≡◌, ℕ, ◌+◌, ◌<◌, ◌≤◌, List, [], ◌∷◌, ◌++◌, drop, slice_get, codes}
use Rattle.std.specs.Prelude.{Some}
use Rattle.rowan_green.specs.Term.{Term, node_children, node_len, term_len}
use Rattle.rowan_green.specs.Fits.{byte_limit, child_limit}
use Rattle.rowan_green.specs.Search.{child_start}
use Rattle.rowan_green.specs.Sizes.{terms_size}
use Rattle.rowan_print.specs.Printed.{AreTermLines}
use Rattle.rowan_print.specs.declared.open_node.OpenNode.{OpenNode}

-- the children of an open node that are still to come
abbrev pub children_left : OpenNode → List Term
children_left n = drop n.next (node_children n.green.now)

-- where the text of the next one starts
abbrev pub next_start : OpenNode → ℕ
next_start n = n.start + child_start (node_children n.green.now) n.next

-- the next child is this one
pub record HasNext (n : OpenNode) (t : Term) : Type 0 where
  pub child : slice_get (node_children n.green.now) n.next ≡ Some t
  pub place : n.next < child_limit

-- q is p with the child behind the next one as the next
pub record Passes (p q : OpenNode) : Type 0 where
  pub green : q.green.now ≡ p.green.now
  pub start : q.start ≡ p.start
  pub next : q.next ≡ p.next + 1

-- the lines of terms side by side and of all that is in them, from the offset of the first
abbrev pub AreLinesFrom : (ℕ → List ℕ) → ℕ → ℕ → List Term → List ℕ → Type 0
AreLinesFrom name start level [] lines = lines ≡ []
AreLinesFrom name start level (t ∷ ts) lines = (own : List ℕ) × (rest : List ℕ)
    × AreTermLines name start level t own
    × AreLinesFrom name (start + term_len t) level ts rest
    × (lines ≡ own ++ rest)

-- those of what is left of a node, whose children stand at the level
abbrev pub AreLeftLines : (ℕ → List ℕ) → ℕ → OpenNode → List ℕ → Type 0
AreLeftLines name level n lines = AreLinesFrom name (next_start n) level (children_left n) lines

-- those of what is left of all of them, the innermost first; the children of the first stand at the
-- level
abbrev pub AreOpenLines : (ℕ → List ℕ) → ℕ → List OpenNode → List ℕ → Type 0
AreOpenLines name level [] lines = lines ≡ []
AreOpenLines name level (n ∷ ns) lines = (inner : List ℕ) × (outer : List ℕ)
    × AreOpenLines name (level + 1) ns inner
    × AreLeftLines name level n outer
    × (lines ≡ inner ++ outer)

-- a text is the lines so far, the last without its newline, and behind them those of what is left
abbrev pub Completes : (ℕ → List ℕ) → List ℕ → List OpenNode → List ℕ → Type 0
Completes name so_far ns text = (rest : List ℕ)
    × AreOpenLines name 1 ns rest
    × (text ≡ so_far ++ codes "\n" ++ rest)

-- the node ends within the limit of offsets
abbrev pub IsWithin : OpenNode → Type 0
IsWithin n = n.start + node_len n.green.now ≤ byte_limit

-- how large what is left is, with 1 for each node
abbrev pub open_size : List OpenNode → ℕ
open_size [] = 0
open_size (n ∷ ns) = terms_size (children_left n) + open_size ns + 1
