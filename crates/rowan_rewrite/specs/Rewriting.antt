-- Rewritten trees: an answer for each token of a tree, in the order of the text, says whether it
-- stays, alone or behind new elements, is taken away, or has other elements in its place. All nodes
-- stay.
--     A token for which there is no answer stays.
--     A node begins with a token if that is its first child, or if its first child is a node that
--     begins with it. What is put before a token stands in front of the outermost node below the
--     root that begins with it.
use Rattle.std.specs.Prelude.{◌≡◌, ℕ, ◌+◌, Bool, List, [], ◌∷◌, ◌++◌, drop, length, Some}
use Rattle.std.specs.List.{filter, flat_map}
use Rattle.rowan_green.specs.declared.fault.Fault.{Fault}
use Rattle.rowan_green.specs.declared.utility_types.NodeOrToken.TheVariants.{Node, Token}
use Rattle.rowan_green.specs.Fits.{PassesLimit}
use Rattle.rowan_terms.specs.Path.{Path, subterm, tokens}
use Rattle.rowan_green.specs.Span.{Span}
use Rattle.rowan_green.specs.Term.{TokenTerm, NodeTerm, node, Forest, empty, node_then, token_then}
use Rattle.rowan_green.specs.Term.{Term, node_of, node_kind, node_children, term_text, token_len}
use Rattle.rowan_green.specs.Term.{sum_of_lens}
use Rattle.rowan_changes.specs.declared.changes.Change.{Change}
use Rattle.rowan_rewrite.specs.declared.rewriting.Rewrite.{Rewrite}
use Rattle.rowan_rewrite.specs.declared.rewriting.Rewrite.TheVariants.{Keep, KeepBehind, Remove, Replace}

-- what an answer puts before a token
abbrev pub lead : Rewrite → List Term
lead (KeepBehind new) = new.items
lead _ = []

-- what it puts in the token's own place
abbrev pub own : TokenTerm → Rewrite → List Term
own t Keep = Token t ∷ []
own t (KeepBehind new) = Token t ∷ []
own t Remove = []
own t (Replace new) = new.items

-- both, one after the other: what comes in the place of a token
abbrev pub in_place : TokenTerm → Rewrite → List Term
in_place t answer = lead answer ++ own t answer

-- the first of these answers
abbrev pub first_answer : List Rewrite → Rewrite
first_answer [] = Keep
first_answer (a ∷ answers) = a

abbrev mutual
  -- what a node leads with: what is put before the token that it begins with
  pub node_lead : NodeTerm → List Rewrite → List Term
  node_lead (node k f) answers = first_lead f answers

  pub first_lead : Forest → List Rewrite → List Term
  first_lead empty answers = []
  first_lead (node_then n f) answers = node_lead n answers
  first_lead (token_then t f) answers = lead (first_answer answers)

abbrev mutual
  -- the new node, without what it leads with
  pub behind_lead : NodeTerm → List Rewrite → NodeTerm
  behind_lead (node k f) answers = node_of k (new_children f answers)

  -- the new children of a node, each of which takes the answers for its own tokens and stands
  -- behind what it leads with; what the first one leads with is left out
  pub new_children : Forest → List Rewrite → List Term
  new_children empty answers = []
  new_children (node_then n f) answers =
      let rest = drop (length (tokens (Node n))) answers in
      Node (behind_lead n answers) ∷ (first_lead f rest ++ new_children f rest)
  new_children (token_then t f) answers =
      let rest = drop 1 answers in
      own t (first_answer answers) ++ (first_lead f rest ++ new_children f rest)

-- the node with these before its first child
abbrev pub with_front : List Term → NodeTerm → NodeTerm
with_front ts n = node_of (node_kind n) (ts ++ node_children n)

-- the new root, which keeps what it leads with
abbrev pub rewritten : NodeTerm → List Rewrite → NodeTerm
rewritten root answers = with_front (node_lead root answers) (behind_lead root answers)

-- what the terms have that come in the place of these tokens, one after the other
abbrev pub rewritten_by : {A : Type 0} → (Term → List A) → List TokenTerm → List Rewrite → List A
rewritten_by has [] answers = []
rewritten_by has (t ∷ ts) answers =
    flat_map has (in_place t (first_answer answers)) ++ rewritten_by has ts (drop 1 answers)

-- their texts, and their tokens
abbrev pub rewritten_text : List TokenTerm → List Rewrite → List ℕ
rewritten_text ts answers = rewritten_by term_text ts answers

abbrev pub rewritten_tokens : List TokenTerm → List Rewrite → List TokenTerm
rewritten_tokens ts answers = rewritten_by tokens ts answers

-- the tokens that pass a test are the same in what comes in the place of a token
abbrev pub Keeps : (TokenTerm → Bool) → TokenTerm → Rewrite → Type 0
Keeps test t answer = filter test (flat_map tokens (in_place t answer)) ≡ filter test (t ∷ [])

-- this holds of each token and its answer
abbrev pub Each : (TokenTerm → Rewrite → Type 0) → List TokenTerm → List Rewrite → Type 0
Each Holds [] answers = Unit {0}
Each Holds (t ∷ ts) answers = Holds t (first_answer answers) × Each Holds ts (drop 1 answers)

-- each of these answers keeps them
abbrev pub AllKeep : (TokenTerm → Bool) → List TokenTerm → List Rewrite → Type 0
AllKeep test ts answers = Each (Keeps test) ts answers

-- what elements change that come before the text at an offset: nothing if there are none
abbrev pub insertion_of : ℕ → List Term → List Change
insertion_of at [] = []
insertion_of at (t ∷ ts) =
    record { range = record { start = at; end = at }; new_len = sum_of_lens (t ∷ ts) } ∷ []

-- what an answer changes where the token's text lies in the old one
abbrev pub change_of : Span → Rewrite → List Change
change_of range Keep = []
change_of range (KeepBehind new) = insertion_of range.start new.items
change_of range Remove = record { range = range; new_len = 0 } ∷ []
change_of range (Replace new) = record { range = range; new_len = sum_of_lens new.items } ∷ []

-- what the answers for tokens change, whose texts follow one another from an offset on
abbrev pub rewrite_changes : ℕ → List TokenTerm → List Rewrite → List Change
rewrite_changes at [] answers = []
rewrite_changes at (t ∷ ts) [] = []
rewrite_changes at (t ∷ ts) (a ∷ answers) =
    change_of (record { start = at; end = at + token_len t }) a
    ++ rewrite_changes (at + token_len t) ts answers

-- how many bytes an answer puts in
abbrev pub put_len : Rewrite → ℕ
put_len Keep = 0
put_len (KeepBehind new) = sum_of_lens new.items
put_len Remove = 0
put_len (Replace new) = sum_of_lens new.items

-- the children of a node of the tree pass a limit
pub record HasNodePast (tree : NodeTerm) (fault : Fault) : Type 0 where
  pub path : Path
  pub node : NodeTerm
  pub stands : subterm (Node tree) path ≡ Some (Node node)
  pub passes : PassesLimit (node_children node) fault
