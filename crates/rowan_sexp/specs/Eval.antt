-- What an s-expression reads: a number, or none.
-- An atom reads the number that its word writes. A list reads what an operator gives for two
-- numbers: its first expression is an atom with the operator, its second and third read the
-- numbers. Further ones are not looked at.
-- All numbers are of 64 bits with a sign, and a result that is none of these is none.
use Rattle.std.specs.Prelude.{ℕ, ◌^◌, ◌==◌, nat_lt, ℤ, pos, negsuc, ◌+ℤ◌, ◌-ℤ◌, ◌*ℤ◌, int_div, Bool}
use Rattle.std.specs.Prelude.{◌&&◌, if◌then◌else◌, List, [], ◌∷◌, length, Option, Some, None}
use Rattle.std.specs.Option.{option_and_then}
use Rattle.std.specs.Str.{all_ascii_digits}
use Rattle.std.specs.Str.Parse.{without_leading_sign, signed_digits_value}
use Rattle.rowan_green.specs.declared.utility_types.NodeOrToken.TheVariants.{Node, Token}
use Rattle.rowan_green.specs.Term.{NodeTerm, node, Forest, empty, node_then, token_then, Term}
use Rattle.rowan_green.specs.Term.{terms, node_kind, node_children}
use Rattle.rowan_table.specs.Cursor.{Cursor, term_at}
use Rattle.rowan_table.specs.Moves.{children_of}
use Rattle.rowan_sexp.specs.declared.sexp.lang.SyntaxKind.{SyntaxKind}
use Rattle.rowan_sexp.specs.declared.sexp.lang.SyntaxKind.TheVariants.{ATOM, LIST}
use Rattle.rowan_sexp.specs.declared.sexp.eval.Operator.{Operator}
use Rattle.rowan_sexp.specs.declared.sexp.eval.Operator.TheVariants.{Add, Sub, Mul, Div}
use Rattle.rowan_sexp.specs.Casts.{is_atom, is_sexp}
use Rattle.rowan_sexp.specs.Sexp.{kind_of}

-- ---- numbers

-- from -9,223,372,036,854,775,808 to 9,223,372,036,854,775,807
abbrev pub is_i64 : ℤ → Bool
is_i64 (pos n) = nat_lt n (2 ^ 63)
is_i64 (negsuc n) = nat_lt n (2 ^ 63)

-- the number, if it is such a one
abbrev pub if_i64 : ℤ → Option ℤ
if_i64 n = if is_i64 n then Some n else None

-- one ASCII digit or more, and nothing else
abbrev pub is_digits : List ℕ → Bool
is_digits text = nat_lt 0 (length text) && all_ascii_digits text

-- the number that a text writes: a sign or none, and then digits
abbrev pub number_in : List ℕ → Option ℤ
number_in text =
    if is_digits (without_leading_sign text) then if_i64 (signed_digits_value 10 text) else None

-- ---- operators

-- the operator of a byte: '+', '-', '*' or '/'
abbrev pub operator_byte : ℕ → Option Operator
operator_byte b =
    if b == 43 then Some Add
    else (if b == 45 then Some Sub
    else (if b == 42 then Some Mul
    else (if b == 47 then Some Div
    else None)))

-- the operator that a text is
abbrev pub operator_in : List ℕ → Option Operator
operator_in [] = None
operator_in (b ∷ []) = operator_byte b
operator_in (b ∷ c ∷ text) = None

-- the quotient, cut towards zero; of no divisor 0
abbrev pub quotient : ℤ → ℤ → Option ℤ
quotient a (pos n) = if n == 0 then None else if_i64 (int_div a (pos n))
quotient a (negsuc n) = if_i64 (int_div a (negsuc n))

-- what an operator gives
abbrev pub result_of : Operator → ℤ → ℤ → Option ℤ
result_of Add a b = if_i64 (a +ℤ b)
result_of Sub a b = if_i64 (a -ℤ b)
result_of Mul a b = if_i64 (a *ℤ b)
result_of Div a b = quotient a b

-- what it gives for two numbers that may be none
abbrev pub result_if : Option Operator → Option ℤ → Option ℤ → Option ℤ
result_if operator a b =
    option_and_then (λ o. option_and_then (λ x. option_and_then (λ y. result_of o x y) b) a)
    operator

-- ---- expressions

-- the text of an atom: that of its first child, if this is a token
abbrev pub atom_text : List Term → Option (List ℕ)
atom_text [] = None
atom_text (Node n ∷ ts) = None
atom_text (Token t ∷ ts) = Some t.text

-- what an expression stands for in a list: the operator that it is, and the number that it reads
abbrev pub Reading : Type 0
Reading = Option Operator × Option ℤ

-- what a list reads
abbrev pub list_value : List Reading → Option ℤ
list_value [] = None
list_value (first ∷ []) = None
list_value (first ∷ second ∷ []) = None
list_value (first ∷ second ∷ third ∷ others) = result_if first.0 second.1 third.1

-- what a node of a kind reads: that of an atom by its children, that of a list by its expressions
abbrev pub value_by : SyntaxKind → List Term → List Reading → Option ℤ
value_by ATOM ts expressions = option_and_then number_in (atom_text ts)
value_by LIST ts expressions = list_value expressions
value_by _ ts expressions = None

-- the operator that a node is, if it is an atom
abbrev pub operator_of : NodeTerm → Option Operator
operator_of n =
    if is_atom (kind_of (node_kind n))
    then option_and_then operator_in (atom_text (node_children n)) else None

abbrev mutual
  -- what a node reads
  pub value : NodeTerm → Option ℤ
  value (node k f) = value_by (kind_of k) (terms f) (readings f)

  -- what the expressions among some children stand for, in order
  pub readings : Forest → List Reading
  readings empty = []
  readings (token_then t f) = readings f
  readings (node_then n f) =
      if is_sexp (kind_of (node_kind n)) then (operator_of n, value n) ∷ readings f else readings f

-- ---- cursors

-- the text of the atom at a cursor
abbrev pub atom_text_at : Cursor → Option (List ℕ)
atom_text_at c = atom_text (children_of (term_at c))

abbrev pub operator_at_term : Option Term → Option Operator
operator_at_term (Some (Node n)) = operator_of n
operator_at_term (Some (Token t)) = None
operator_at_term None = None

-- the operator that the node at a cursor is
abbrev pub operator_at : Cursor → Option Operator
operator_at c = operator_at_term (term_at c)

abbrev pub value_of : Option Term → Option ℤ
value_of (Some (Node n)) = value n
value_of (Some (Token t)) = None
value_of None = None

-- what the node at a cursor reads
abbrev pub value_at : Cursor → Option ℤ
value_at c = value_of (term_at c)
