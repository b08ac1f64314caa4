-- The limits of 32 bits: a text has at most 4,294,967,295 bytes, and a node at most as many
-- children.
-- `Fits` says that a term keeps them at every level. `PassesLimit` says which limit a list of
-- children passes first.
use Rattle.std.specs.Prelude.{◌≡◌, ◌≢◌, ℕ, ◌+◌, ◌<◌, ◌≤◌, List, ◌∷◌, ◌++◌, length}
use Rattle.std.specs.List.{AllByRecursion}
use Rattle.rowan_green.specs.declared.fault.Fault.{Fault}
use Rattle.rowan_green.specs.declared.fault.Fault.TheVariants.{TextTooLong, TooManyChildren, Memory}
use Rattle.rowan_green.specs.declared.utility_types.NodeOrToken.TheVariants.{Node, Token}
use Rattle.rowan_green.specs.Term.{TokenTerm, NodeTerm, node, Forest, empty, node_then, token_then}
use Rattle.rowan_green.specs.Term.{Term, terms, node_of, token_len, term_len, sum_of_lens}

-- the greatest number of bytes of a text, and the greatest number of children of a node
abbrev pub byte_limit : ℕ
byte_limit = 4294967295

abbrev pub child_limit : ℕ
child_limit = 4294967295

-- a token's text is within the limit
abbrev pub FitsToken : TokenTerm → Type 0
FitsToken t = token_len t ≤ byte_limit

-- the number of these children and the length of their text are within the limits
pub record AreWithin (children : List Term) : Type 0 where
  pub count : length children ≤ child_limit
  pub text : sum_of_lens children ≤ byte_limit

abbrev mutual
  -- at every level, the tokens and the children of each node are within the limits
  pub FitsNode : NodeTerm → Type 0
  FitsNode (node k f) = AreWithin (terms f) × FitForest f

  pub FitForest : Forest → Type 0
  FitForest empty = Unit {0}
  FitForest (node_then n f) = FitsNode n × FitForest f
  FitForest (token_then t f) = FitsToken t × FitForest f

abbrev pub Fits : Term → Type 0
Fits (Node n) = FitsNode n
Fits (Token t) = FitsToken t

-- which limit one more child passes: their number is looked at before their text
abbrev pub ChildPasses : List Term → Term → Fault → Type 0
ChildPasses before child TooManyChildren = child_limit < length before + 1
ChildPasses before child TextTooLong =
    (length before + 1 ≤ child_limit) × (byte_limit < sum_of_lens before + term_len child)
ChildPasses before child _ = ⊥

-- the first child at which these children pass a limit passes this one
pub record PassesLimit (children : List Term) (fault : Fault) : Type 0 where
  pub before : List Term
  pub child : Term
  pub after : List Term
  pub parts : children ≡ before ++ child ∷ after
  pub within : AreWithin before
  pub passes : ChildPasses before child fault

-- the node is of this kind and these children, which are within the limits
abbrev pub IsMadeOf : ℕ → List Term → NodeTerm → Type 0
IsMadeOf kind children n = (n ≡ node_of kind children) × AreWithin children

-- why no node of these children is made: for want of memory, or for the limit that they pass
abbrev pub WhyNoNode : List Term → Fault → Type 0
WhyNoNode children fault = fault ≢ Memory → PassesLimit children fault

abbrev pub AllFit : List Term → Type 0
AllFit ts = AllByRecursion Fits ts
