-- A cursor is a root and a path in it. What it answers follows from these two alone.
use Rattle.std.specs.Prelude.{◌≡◌, ℕ, List, [], ◌∷◌, Option, Some}
use Rattle.std.specs.Option.{option_map}
use Rattle.rowan_green.specs.declared.utility_types.NodeOrToken.TheVariants.{Node, Token}
use Rattle.rowan_green.specs.Term.{NodeTerm, TokenTerm, Term, term_kind}
use Rattle.rowan_terms.specs.Path.{Path, subterm, text_of, range}
use Rattle.rowan_green.specs.Span.{Span}

pub record Cursor : Type 0 where
  pub root : NodeTerm
  pub path : Path

-- what stands there
abbrev pub term_at : Cursor → Option Term
term_at c = subterm (Node c.root) c.path

-- the cursor stands at this node; at this token
abbrev pub StandsAt : Cursor → NodeTerm → Type 0
StandsAt c n = term_at c ≡ Some (Node n)

abbrev pub StandsAtToken : Cursor → TokenTerm → Type 0
StandsAtToken c t = term_at c ≡ Some (Token t)

-- the last index of a path: that among all children of the parent, and 0 of a root
abbrev pub last_index : Path → ℕ
last_index [] = 0
last_index (i ∷ []) = i
last_index (i ∷ j ∷ p) = last_index (j ∷ p)

-- the index of the element among all children of its parent, and 0 of a root
abbrev pub index : Cursor → ℕ
index c = last_index c.path

-- the kind of what stands there
abbrev pub kind : Cursor → Option ℕ
kind c = option_map term_kind (term_at c)

-- where the text lies in that of the root, in bytes
abbrev pub text_range : Cursor → Span
text_range c = range (Node c.root) c.path

-- the text
abbrev pub text_at : Cursor → List ℕ
text_at c = text_of (term_at c)
