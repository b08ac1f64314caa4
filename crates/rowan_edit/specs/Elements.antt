-- Elements that stand in a tree, as parts of new ones.
use Rattle.std.specs.Prelude.{ℕ, List, [], ◌∷◌, Option, Some, None}
use Rattle.rowan_green.specs.declared.utility_types.NodeOrToken.TheVariants.{Node, Token}
use Rattle.rowan_green.specs.Term.{Term, token_of}
use Rattle.rowan_table.specs.Cursor.{Cursor, term_at}

abbrev pub one_or_none : Option Term → List Term
one_or_none None = []
one_or_none (Some t) = t ∷ []

-- what stands at a cursor, alone
abbrev pub terms_at : Cursor → List Term
terms_at c = one_or_none (term_at c)

-- a token with another text, and with another kind
abbrev pub with_text_of : Option Term → List ℕ → List Term
with_text_of (Some (Token t)) text = Token (token_of t.kind text) ∷ []
with_text_of (Some (Node n)) text = []
with_text_of None text = []

abbrev pub with_kind_of : Option Term → ℕ → List Term
with_kind_of (Some (Token t)) kind = Token (token_of kind t.text) ∷ []
with_kind_of (Some (Node n)) kind = []
with_kind_of None kind = []

-- the token at a cursor, with another text or kind, alone
abbrev pub with_text : Cursor → List ℕ → List Term
with_text c text = with_text_of (term_at c) text

abbrev pub with_kind : Cursor → ℕ → List Term
with_kind c kind = with_kind_of (term_at c) kind
