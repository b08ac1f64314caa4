-- The shapes of this grammar's nodes.
use Rattle.std.specs.Prelude.{◌≡◌, ◌⊎◌, ℕ, zero, suc}
use Rattle.rowan_parser.specs.Making.{IsErrorNode, IsListOf}
use Rattle.rowan_parser.specs.Shape.{Forest, none, token_then, node_then}
use Rattle.rowan_parser_shapes.specs.Kinds.{code_of}
use Rattle.rowan_parser_shapes.specs.declared.kinds.Kind.TheVariants.{Literal, Group, Error, Sum}

abbrev pub a_literal : Forest
a_literal = node_then (code_of Literal) (token_then none) none

abbrev pub IsElement : Forest → Type 0
IsElement f = f ≡ a_literal

-- a value at most so deep
abbrev pub IsValue : ℕ → Forest → Type 0
IsValue zero f = IsErrorNode (code_of Error) f
IsValue (suc depth) f =
    IsErrorNode (code_of Error) f
    ⊎ ((f ≡ a_literal) ⊎ IsListOf (IsValue depth) (token_then none) (code_of Group) f)

-- a literal, or a sum of such a term and a literal
pub data IsTerm : Forest → Type 0 where
  only : IsTerm a_literal
  plus : (kind : ℕ) (inside : Forest) → IsTerm (node_then kind inside none)
      → IsTerm (node_then (code_of Sum) (node_then kind inside (token_then a_literal)) none)
