-- New elements: nodes, and tokens beside them.
use Rattle.std.specs.Prelude.{ℕ, ◌==◌, ◌||◌, if◌then◌else◌, Bool, List, [], ◌∷◌}
use Rattle.std.specs.List.{flat_map}
use Rattle.rowan.specs.Types.NodeOrToken.TheVariants.{Node, Token}
use Rattle.rowan.specs.Term.{Term, NodeTerm, TokenTerm}

-- the nodes among elements
abbrev pub node_in : Term → List NodeTerm
node_in (Node n) = n ∷ []
node_in (Token t) = []

abbrev pub nodes_in : List Term → List NodeTerm
nodes_in terms = flat_map node_in terms

-- the kinds of white space and of commas, by their numbers
abbrev pub is_between : ℕ → Bool
is_between kind = kind == 0 || kind == 17

-- the tokens among elements that are neither white space nor commas
abbrev pub other_in : Term → List TokenTerm
other_in (Node n) = []
other_in (Token t) = if is_between t.kind then [] else t ∷ []

abbrev pub others_in : List Term → List TokenTerm
others_in terms = flat_map other_in terms
