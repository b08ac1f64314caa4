-- Terms: what green values are, with their texts and lengths.
--     A token is a raw kind and a text, as the bytes of its UTF-8.
--     A node is a raw kind and a list of children, each a node or a token. It has no place and no
--     parent.
-- The text of a node is the texts of its children, one after the other, and a length is the number
-- of bytes of a text.
use Rattle.std.specs.Prelude.{ℕ, ◌+◌, List, [], ◌∷◌, ◌++◌, length}
use Rattle.std.specs.List.{flat_map}
use Rattle.rowan_green.specs.declared.utility_types.NodeOrToken.{NodeOrToken}
use Rattle.rowan_green.specs.declared.utility_types.NodeOrToken.TheVariants.{Node, Token}

pub record TokenTerm : Type 0 where
  pub kind : ℕ
  pub text : List ℕ

-- The children of a node stand in a list of their own, since antt has no list of the type that is
-- being defined.
-- `terms` and `forest` go from one to the other.
mutual
  pub data NodeTerm : Type 0 where
    node : ℕ → Forest → NodeTerm

  pub data Forest : Type 0 where
    empty : Forest
    node_then : NodeTerm → Forest → Forest
    token_then : TokenTerm → Forest → Forest

abbrev pub Term : Type 0
Term = NodeOrToken NodeTerm TokenTerm

abbrev pub terms : Forest → List Term
terms empty = []
terms (node_then n f) = Node n ∷ terms f
terms (token_then t f) = Token t ∷ terms f

-- the term in front of the others
abbrev pub put_first : Term → Forest → Forest
put_first (Node n) f = node_then n f
put_first (Token t) f = token_then t f

abbrev pub forest : List Term → Forest
forest [] = empty
forest (t ∷ ts) = put_first t (forest ts)

-- the node of a kind with these children
abbrev pub node_of : ℕ → List Term → NodeTerm
node_of k ts = node k (forest ts)

-- the token of a kind with this text
abbrev pub token_of : ℕ → List ℕ → TokenTerm
token_of k text = record { kind = k; text = text }

abbrev pub node_kind : NodeTerm → ℕ
node_kind (node k f) = k

abbrev pub node_children : NodeTerm → List Term
node_children (node k f) = terms f

abbrev pub term_kind : Term → ℕ
term_kind (Node n) = node_kind n
term_kind (Token t) = t.kind

abbrev mutual
  pub node_text : NodeTerm → List ℕ
  node_text (node k f) = forest_text f

  pub forest_text : Forest → List ℕ
  forest_text empty = []
  forest_text (node_then n f) = node_text n ++ forest_text f
  forest_text (token_then t f) = t.text ++ forest_text f

abbrev pub term_text : Term → List ℕ
term_text (Node n) = node_text n
term_text (Token t) = t.text

-- the texts of a list of terms, one after the other
abbrev pub joined_text : List Term → List ℕ
joined_text ts = flat_map term_text ts

abbrev pub node_len : NodeTerm → ℕ
node_len n = length (node_text n)

abbrev pub token_len : TokenTerm → ℕ
token_len t = length t.text

abbrev pub term_len : Term → ℕ
term_len t = length (term_text t)

-- the lengths of a list of terms, added up
abbrev pub sum_of_lens : List Term → ℕ
sum_of_lens [] = 0
sum_of_lens (t ∷ ts) = term_len t + sum_of_lens ts

abbrev mutual
  -- how large a node is, which what goes through it counts down: 1 for each node and for each child
  pub node_size : NodeTerm → ℕ
  node_size (node k f) = forest_size f + 1

  pub forest_size : Forest → ℕ
  forest_size empty = 0
  forest_size (node_then n f) = node_size n + forest_size f + 1
  forest_size (token_then t f) = forest_size f + 1
