-- A token where it stands in its tree, as a clause sees it.
use Rattle.std.specs.Prelude.{ℕ}
use Rattle.rowan_green.specs.Term.{TokenTerm, NodeTerm}
use Rattle.rowan_rewrite.specs.declared.rewriting.token_at.TokenAt.{TokenAt}

-- the token
abbrev pub token_in : TokenAt → TokenTerm
token_in view = view.token.now

-- the node whose child it is
abbrev pub parent_in : TokenAt → NodeTerm
parent_in view = view.parent.now

-- its index among the children of that node
abbrev pub index_in : TokenAt → ℕ
index_in view = view.index

-- where its text starts in that of the tree
abbrev pub start_in : TokenAt → ℕ
start_in view = view.start
