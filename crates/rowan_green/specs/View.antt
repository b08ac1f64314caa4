-- What the memory of a node says: its term, and what is stored beside it.
use Rattle.std.specs.Prelude.{◌≡◌, ℕ, ◌+◌, List, [], ◌∷◌, map}
use Rattle.std.specs.Global.{Global}
use Rattle.rowan_thin_rc.specs.declared.count.Counted.{Counted}
use Rattle.rowan_thin_rc.specs.declared.header_slice.HeaderSlice.{HeaderSlice}
use Rattle.rowan_thin_rc.specs.Shape.{IsHeaded}
use Rattle.rowan_green.specs.declared.green.node.GreenNodeHead.{GreenNodeHead}
use Rattle.rowan_green.specs.declared.green.node.GreenChild.{GreenChild}
use Rattle.rowan_green.specs.declared.green.node.GreenChild.TheVariants.{Node, Token}
use Rattle.rowan_green.specs.declared.utility_types.NodeOrToken.TheVariants as element
use base.Stored.{Gv}
use Rattle.rowan_green.specs.Term.{NodeTerm, Term, node_of, sum_of_lens, term_len}
use Rattle.rowan_green.specs.Coding.{coded_node}
use Rattle.rowan_green.specs.Fits.{AreWithin, AllFit}
use Rattle.rowan_green.specs.Search.{child_start, child_end}
use Rattle.rowan_green.specs.Span.{Span}
use Rattle.rowan_green.specs.NodeBlock.{front_words, child_words}

-- the term of a child
abbrev pub child_term : GreenChild → Term
child_term (Node at n) = element.Node n
child_term (Token at t) = element.Token t

-- where its text starts in that of its parent
abbrev pub child_offset : GreenChild → ℕ
child_offset (Node at n) = at
child_offset (Token at t) = at

-- where the child at an index lies in the text of these children
abbrev pub span_at : List GreenChild → ℕ → Span
span_at cs index =
    let ts = map child_term cs in record { start = child_start ts index; end = child_end ts index }

-- what a node's block begins with, and its children
abbrev pub Stored : Type 0
Stored = HeaderSlice GreenNodeHead GreenChild Global

abbrev pub node_view : Stored → NodeTerm
node_view f = node_of f.head.kind.0 (map child_term f.tail.items)

-- what a block is labelled by: its node, as a ghost value
abbrev pub node_label : NodeTerm → Gv
node_label = coded_node.code

-- each child's offset is the sum of the lengths before it
abbrev pub HasOffsetsFrom : ℕ → List GreenChild → Type 0
HasOffsetsFrom at [] = Unit {0}
HasOffsetsFrom at (c ∷ cs) =
    (child_offset c ≡ at) × HasOffsetsFrom (at + term_len (child_term c)) cs

-- a stored length and the stored offsets are those of the children, which are within the limits at
-- every level
pub record AreSound (len : ℕ) (cs : List GreenChild) : Type 0 where
  pub sum : len ≡ sum_of_lens (map child_term cs)
  pub offsets : HasOffsetsFrom 0 cs
  pub within : AreWithin (map child_term cs)
  pub fit : AllFit (map child_term cs)

-- the parts of a node's block belong together
pub record IsSound (c : Counted Stored) : Type 0 where
  pub headed : IsHeaded front_words child_words c
  pub sound : AreSound c.value.head.text_len c.value.tail.items
  pub labelled : c.label ≡ node_label (node_view c.value)
