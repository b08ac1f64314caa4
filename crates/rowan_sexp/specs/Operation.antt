-- How a list is evaluated: by an operator and two expressions in it, which are smaller than the
-- list.
use Rattle.std.specs.Prelude.{◌≡◌, ℕ, ◌<◌, Option, Some, None, MatchOption}
use Rattle.std.specs.Option.{option_map_or}
use Rattle.rowan_green.specs.Sizes.{term_size}
use Rattle.rowan_table.specs.Cursor.{Cursor, term_at}
use Rattle.rowan_sexp.specs.declared.sexp.eval.Operator.{Operator}
use Rattle.rowan_sexp.specs.declared.sexp.eval.Operation.{Operation}
use Rattle.rowan_sexp.specs.Eval.{result_if, value_at}
use Rattle.rowan_sexp.specs.Wrappers.{node_in}

-- how large what stands at a cursor is
abbrev pub size_at : Cursor → ℕ
size_at c = option_map_or term_size (term_at c) 0

-- the node at a cursor reads what this operator gives for what these two nodes read, and they are
-- smaller
pub record Operates (c : Cursor) (operator : Operator) (left right : Cursor) : Type 0 where
  pub value : value_at c ≡ result_if (Some operator) (value_at left) (value_at right)
  pub left_smaller : size_at left < size_at c
  pub right_smaller : size_at right < size_at c

-- the node reads what this operation gives, and none where there is none
abbrev pub IsOperationOf : Cursor → Option Operation → Type 0
IsOperationOf c found =
    MatchOption found (value_at c ≡ None)
    (λ o. Operates c o.operator (node_in o.left) (node_in o.right))
