-- Written by rowan_grammar from small.ungram: change that, and not this file.
-- The kinds of Small.
use Rattle.std.specs.Prelude.{ℕ, ◌==◌, List, codes, if◌then◌else◌, Bool, true, false}
use Rattle.std.specs.Prelude.{Option, Some, None}
use Rattle.std.specs.Str.{bytes_eq}
use Rattle.grammar_small.specs.declared.kinds.Kind.{Kind}

-- the kind that a raw kind means
abbrev pub kind_of : ℕ → Kind
kind_of n =
    if n == 0 then Kind.Space
    else (if n == 1 then Kind.Number
    else (if n == 2 then Kind.Plus
    else (if n == 3 then Kind.Minus
    else (if n == 4 then Kind.Dots
    else (if n == 5 then Kind.Comma
    else (if n == 6 then Kind.OpenParen
    else (if n == 7 then Kind.CloseParen
    else (if n == 8 then Kind.OpenBrace
    else (if n == 9 then Kind.CloseBrace
    else (if n == 10 then Kind.If
    else (if n == 11 then Kind.Else
    else (if n == 12 then Kind.String
    else (if n == 13 then Kind.Eq
    else (if n == 14 then Kind.Some
    else (if n == 15 then Kind.Token_
    else (if n == 17 then Kind.Program
    else (if n == 18 then Kind.Literal
    else (if n == 19 then Kind.Sum
    else (if n == 20 then Kind.Range
    else (if n == 21 then Kind.Fn
    else (if n == 22 then Kind.Self_
    else (if n == 23 then Kind.List
    else (if n == 24 then Kind.Condition
    else (if n == 25 then Kind.Option
    else Kind.Error))))))))))))))))))))))))

-- the raw kind of a kind
abbrev pub number_of : Kind → ℕ
number_of Kind.Space = 0
number_of Kind.Number = 1
number_of Kind.Plus = 2
number_of Kind.Minus = 3
number_of Kind.Dots = 4
number_of Kind.Comma = 5
number_of Kind.OpenParen = 6
number_of Kind.CloseParen = 7
number_of Kind.OpenBrace = 8
number_of Kind.CloseBrace = 9
number_of Kind.If = 10
number_of Kind.Else = 11
number_of Kind.String = 12
number_of Kind.Eq = 13
number_of Kind.Some = 14
number_of Kind.Token_ = 15
number_of Kind.Error = 16
number_of Kind.Program = 17
number_of Kind.Literal = 18
number_of Kind.Sum = 19
number_of Kind.Range = 20
number_of Kind.Fn = 21
number_of Kind.Self_ = 22
number_of Kind.List = 23
number_of Kind.Condition = 24
number_of Kind.Option = 25

-- how the kinds are called
abbrev pub name_of : Kind → List ℕ
name_of Kind.Space = codes "SPACE"
name_of Kind.Number = codes "NUMBER"
name_of Kind.Plus = codes "PLUS"
name_of Kind.Minus = codes "MINUS"
name_of Kind.Dots = codes "DOTS"
name_of Kind.Comma = codes "COMMA"
name_of Kind.OpenParen = codes "OPEN_PAREN"
name_of Kind.CloseParen = codes "CLOSE_PAREN"
name_of Kind.OpenBrace = codes "OPEN_BRACE"
name_of Kind.CloseBrace = codes "CLOSE_BRACE"
name_of Kind.If = codes "IF"
name_of Kind.Else = codes "ELSE"
name_of Kind.String = codes "STRING"
name_of Kind.Eq = codes "EQ"
name_of Kind.Some = codes "SOME"
name_of Kind.Token_ = codes "TOKEN"
name_of Kind.Error = codes "ERROR"
name_of Kind.Program = codes "PROGRAM"
name_of Kind.Literal = codes "LITERAL"
name_of Kind.Sum = codes "SUM"
name_of Kind.Range = codes "RANGE"
name_of Kind.Fn = codes "FN"
name_of Kind.Self_ = codes "SELF"
name_of Kind.List = codes "LIST"
name_of Kind.Condition = codes "CONDITION"
name_of Kind.Option = codes "OPTION"

-- whether its tokens are always one word
abbrev pub is_keyword : Kind → Bool
is_keyword Kind.If = true
is_keyword Kind.Else = true
is_keyword _ = false

-- whether its tokens always have one text that is no word
abbrev pub is_punct : Kind → Bool
is_punct Kind.Plus = true
is_punct Kind.Minus = true
is_punct Kind.Dots = true
is_punct Kind.Comma = true
is_punct Kind.OpenParen = true
is_punct Kind.CloseParen = true
is_punct Kind.OpenBrace = true
is_punct Kind.CloseBrace = true
is_punct Kind.Eq = true
is_punct _ = false

-- the kind of the tokens that are always this word
abbrev pub keyword_of : List ℕ → Option Kind
keyword_of text =
    if bytes_eq text (codes "if") then Some Kind.If
    else (if bytes_eq text (codes "else") then Some Kind.Else
    else None)
