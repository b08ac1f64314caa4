-- Written by rowan_grammar from little.ungram: change that, and not this file.
-- The kinds of Little.
use Rattle.std.specs.Prelude.{ℕ, ◌==◌, nat_lt, List, codes, if◌then◌else◌, Bool, true, false}
use Rattle.std.specs.Prelude.{Option, Some, None}
use Rattle.std.specs.Str.{bytes_eq}
use Rattle.std.specs.Prelude.{nat_eq}
use Rattle.std.specs.List.{starts_with}
use Rattle.little_syntax.specs.declared.kinds.Kind.{Kind}

abbrev pub block_kind_0 : ℕ → Kind
block_kind_0 n =
    if n == 0 then Kind.Whitespace
    else (if n == 1 then Kind.Comment
    else (if n == 2 then Kind.Number
    else (if n == 3 then Kind.Name
    else (if n == 4 then Kind.Let
    else (if n == 5 then Kind.Fn
    else (if n == 6 then Kind.If
    else (if n == 7 then Kind.Else
    else (if n == 8 then Kind.Open
    else (if n == 9 then Kind.Close
    else (if n == 10 then Kind.LBrace
    else (if n == 11 then Kind.RBrace
    else (if n == 12 then Kind.Comma
    else (if n == 13 then Kind.Semi
    else (if n == 14 then Kind.Assign
    else (if n == 15 then Kind.Equal
    else (if n == 16 then Kind.Less
    else (if n == 17 then Kind.Plus
    else (if n == 18 then Kind.Minus
    else (if n == 19 then Kind.Star
    else (if n == 20 then Kind.Slash
    else (if n == 21 then Kind.Not
    else (if n == 22 then Kind.Unknown
    else (if n == 24 then Kind.Program
    else (if n == 25 then Kind.Function
    else (if n == 26 then Kind.Parameters
    else (if n == 27 then Kind.LetStatement
    else (if n == 28 then Kind.IfStatement
    else (if n == 29 then Kind.Block
    else (if n == 30 then Kind.ExprStatement
    else (if n == 31 then Kind.Assignment
    else Kind.Error))))))))))))))))))))))))))))))

abbrev pub block_kind_1 : ℕ → Kind
block_kind_1 n =
    if n == 32 then Kind.Comparison
    else (if n == 33 then Kind.Sum
    else (if n == 34 then Kind.Product
    else (if n == 35 then Kind.Prefix
    else (if n == 36 then Kind.Call
    else (if n == 37 then Kind.Arguments
    else (if n == 38 then Kind.Literal
    else (if n == 39 then Kind.Variable
    else (if n == 40 then Kind.Group
    else Kind.Error))))))))

-- the kind that a raw kind means
abbrev pub kind_of : ℕ → Kind
kind_of n =
    if nat_lt n 32 then block_kind_0 n
    else block_kind_1 n

-- the raw kind of a kind
abbrev pub number_of : Kind → ℕ
number_of Kind.Whitespace = 0
number_of Kind.Comment = 1
number_of Kind.Number = 2
number_of Kind.Name = 3
number_of Kind.Let = 4
number_of Kind.Fn = 5
number_of Kind.If = 6
number_of Kind.Else = 7
number_of Kind.Open = 8
number_of Kind.Close = 9
number_of Kind.LBrace = 10
number_of Kind.RBrace = 11
number_of Kind.Comma = 12
number_of Kind.Semi = 13
number_of Kind.Assign = 14
number_of Kind.Equal = 15
number_of Kind.Less = 16
number_of Kind.Plus = 17
number_of Kind.Minus = 18
number_of Kind.Star = 19
number_of Kind.Slash = 20
number_of Kind.Not = 21
number_of Kind.Unknown = 22
number_of Kind.Error = 23
number_of Kind.Program = 24
number_of Kind.Function = 25
number_of Kind.Parameters = 26
number_of Kind.LetStatement = 27
number_of Kind.IfStatement = 28
number_of Kind.Block = 29
number_of Kind.ExprStatement = 30
number_of Kind.Assignment = 31
number_of Kind.Comparison = 32
number_of Kind.Sum = 33
number_of Kind.Product = 34
number_of Kind.Prefix = 35
number_of Kind.Call = 36
number_of Kind.Arguments = 37
number_of Kind.Literal = 38
number_of Kind.Variable = 39
number_of Kind.Group = 40

-- how the kinds are called
abbrev pub name_of : Kind → List ℕ
name_of Kind.Whitespace = codes "WHITESPACE"
name_of Kind.Comment = codes "COMMENT"
name_of Kind.Number = codes "NUMBER"
name_of Kind.Name = codes "NAME"
name_of Kind.Let = codes "LET"
name_of Kind.Fn = codes "FN"
name_of Kind.If = codes "IF"
name_of Kind.Else = codes "ELSE"
name_of Kind.Open = codes "OPEN"
name_of Kind.Close = codes "CLOSE"
name_of Kind.LBrace = codes "L_BRACE"
name_of Kind.RBrace = codes "R_BRACE"
name_of Kind.Comma = codes "COMMA"
name_of Kind.Semi = codes "SEMI"
name_of Kind.Assign = codes "ASSIGN"
name_of Kind.Equal = codes "EQUAL"
name_of Kind.Less = codes "LESS"
name_of Kind.Plus = codes "PLUS"
name_of Kind.Minus = codes "MINUS"
name_of Kind.Star = codes "STAR"
name_of Kind.Slash = codes "SLASH"
name_of Kind.Not = codes "NOT"
name_of Kind.Unknown = codes "UNKNOWN"
name_of Kind.Error = codes "ERROR"
name_of Kind.Program = codes "PROGRAM"
name_of Kind.Function = codes "FUNCTION"
name_of Kind.Parameters = codes "PARAMETERS"
name_of Kind.LetStatement = codes "LET_STATEMENT"
name_of Kind.IfStatement = codes "IF_STATEMENT"
name_of Kind.Block = codes "BLOCK"
name_of Kind.ExprStatement = codes "EXPR_STATEMENT"
name_of Kind.Assignment = codes "ASSIGNMENT"
name_of Kind.Comparison = codes "COMPARISON"
name_of Kind.Sum = codes "SUM"
name_of Kind.Product = codes "PRODUCT"
name_of Kind.Prefix = codes "PREFIX"
name_of Kind.Call = codes "CALL"
name_of Kind.Arguments = codes "ARGUMENTS"
name_of Kind.Literal = codes "LITERAL"
name_of Kind.Variable = codes "VARIABLE"
name_of Kind.Group = codes "GROUP"

-- whether its tokens are always one word
abbrev pub is_keyword : Kind → Bool
is_keyword Kind.Let = true
is_keyword Kind.Fn = true
is_keyword Kind.If = true
is_keyword Kind.Else = true
is_keyword _ = false

-- whether its tokens always have one text that is no word
abbrev pub is_punct : Kind → Bool
is_punct Kind.Open = true
is_punct Kind.Close = true
is_punct Kind.LBrace = true
is_punct Kind.RBrace = true
is_punct Kind.Comma = true
is_punct Kind.Semi = true
is_punct Kind.Assign = true
is_punct Kind.Equal = true
is_punct Kind.Less = true
is_punct Kind.Plus = true
is_punct Kind.Minus = true
is_punct Kind.Star = true
is_punct Kind.Slash = true
is_punct Kind.Not = true
is_punct _ = false

-- the kind of the tokens that are always this word
abbrev pub keyword_of : List ℕ → Option Kind
keyword_of text =
    if bytes_eq text (codes "let") then Some Kind.Let
    else (if bytes_eq text (codes "fn") then Some Kind.Fn
    else (if bytes_eq text (codes "if") then Some Kind.If
    else (if bytes_eq text (codes "else") then Some Kind.Else
    else None)))

-- the kind and the length of the longest sign with which a text begins
abbrev pub sign_of : List ℕ → Option (Kind × ℕ)
sign_of text =
    if starts_with nat_eq text (codes "==") then Some (Kind.Equal, 2)
    else (if starts_with nat_eq text (codes "(") then Some (Kind.Open, 1)
    else (if starts_with nat_eq text (codes ")") then Some (Kind.Close, 1)
    else (if starts_with nat_eq text (codes "{") then Some (Kind.LBrace, 1)
    else (if starts_with nat_eq text (codes "}") then Some (Kind.RBrace, 1)
    else (if starts_with nat_eq text (codes ",") then Some (Kind.Comma, 1)
    else (if starts_with nat_eq text (codes ";") then Some (Kind.Semi, 1)
    else (if starts_with nat_eq text (codes "=") then Some (Kind.Assign, 1)
    else (if starts_with nat_eq text (codes "<") then Some (Kind.Less, 1)
    else (if starts_with nat_eq text (codes "+") then Some (Kind.Plus, 1)
    else (if starts_with nat_eq text (codes "-") then Some (Kind.Minus, 1)
    else (if starts_with nat_eq text (codes "*") then Some (Kind.Star, 1)
    else (if starts_with nat_eq text (codes "/") then Some (Kind.Slash, 1)
    else (if starts_with nat_eq text (codes "!") then Some (Kind.Not, 1)
    else None)))))))))))))
