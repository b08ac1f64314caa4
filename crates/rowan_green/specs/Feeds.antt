-- What the hash of a term feeds a hasher: the kind and the text of a token, and the kind of a node,
-- the number of its children, and for each of them 0 before a node and 1 before a token.
use Rattle.std.specs.Prelude.{ℕ, List, [], ◌++◌, length}
use Rattle.std.specs.Hash as fed
use Rattle.std.specs.List.{flat_map}
use Rattle.rowan_green.specs.declared.utility_types.NodeOrToken.TheVariants.{Node, Token}
use Rattle.rowan_green.specs.Term.{TokenTerm, NodeTerm, node, Forest, empty, node_then, token_then}
use Rattle.rowan_green.specs.Term.{Term, terms, node_kind, node_children}

abbrev pub fed_token : TokenTerm → List (List ℕ)
fed_token t = fed.u16 t.kind ++ fed.str t.text

abbrev mutual
  pub fed_node : NodeTerm → List (List ℕ)
  fed_node (node k f) = fed.u16 k ++ fed.usize (length (terms f)) ++ fed_forest f

  pub fed_forest : Forest → List (List ℕ)
  fed_forest empty = []
  fed_forest (node_then n f) = fed.u8 0 ++ fed_node n ++ fed_forest f
  fed_forest (token_then t f) = fed.u8 1 ++ fed_token t ++ fed_forest f

abbrev pub fed_term : Term → List (List ℕ)
fed_term (Node n) = fed.u8 0 ++ fed_node n
fed_term (Token t) = fed.u8 1 ++ fed_token t

-- for each of these terms in turn
abbrev pub fed_terms : List Term → List (List ℕ)
fed_terms ts = flat_map fed_term ts

-- of a node, what comes before its children
abbrev pub fed_head : NodeTerm → List (List ℕ)
fed_head n = fed.u16 (node_kind n) ++ fed.usize (length (node_children n))
