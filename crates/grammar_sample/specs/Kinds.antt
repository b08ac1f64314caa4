-- Written by rowan_grammar from sample.ungram: change that, and not this file.
-- The kinds of Sample.
use Rattle.std.specs.Prelude.{ℕ, ◌==◌, nat_lt, List, codes, if◌then◌else◌, Bool, true, false}
use Rattle.std.specs.Prelude.{Option, Some, None}
use Rattle.std.specs.Str.{bytes_eq}
use Rattle.grammar_sample.specs.declared.kinds.Kind.{Kind}

abbrev pub block_kind_0 : ℕ → Kind
block_kind_0 n =
    if n == 0 then Kind.Whitespace
    else (if n == 1 then Kind.Newline
    else (if n == 2 then Kind.Comment
    else (if n == 3 then Kind.Name
    else (if n == 4 then Kind.Text
    else (if n == 5 then Kind.Integer
    else (if n == 6 then Kind.Float
    else (if n == 7 then Kind.Boolean
    else (if n == 8 then Kind.Moment
    else (if n == 9 then Kind.Equals
    else (if n == 10 then Kind.Dot
    else (if n == 11 then Kind.Comma
    else (if n == 12 then Kind.LeftBracket
    else (if n == 13 then Kind.RightBracket
    else (if n == 14 then Kind.LeftBrace
    else (if n == 15 then Kind.RightBrace
    else (if n == 16 then Kind.LeftParen
    else (if n == 17 then Kind.RightParen
    else (if n == 18 then Kind.Unknown
    else (if n == 20 then Kind.Document
    else (if n == 21 then Kind.Table
    else (if n == 22 then Kind.ArrayTable
    else (if n == 23 then Kind.Header
    else (if n == 24 then Kind.ArrayHeader
    else (if n == 25 then Kind.Entry
    else (if n == 26 then Kind.Key
    else (if n == 27 then Kind.BareKey
    else (if n == 28 then Kind.QuotedKey
    else (if n == 29 then Kind.Note
    else (if n == 30 then Kind.TextLiteral
    else (if n == 31 then Kind.IntegerLiteral
    else Kind.Error))))))))))))))))))))))))))))))

abbrev pub block_kind_1 : ℕ → Kind
block_kind_1 n =
    if n == 32 then Kind.FloatLiteral
    else (if n == 33 then Kind.BooleanLiteral
    else (if n == 34 then Kind.MomentLiteral
    else (if n == 35 then Kind.Array
    else (if n == 36 then Kind.InlineTable
    else (if n == 37 then Kind.Reference
    else (if n == 38 then Kind.Call
    else (if n == 39 then Kind.Arguments
    else Kind.Error)))))))

-- the kind that a raw kind means
abbrev pub kind_of : ℕ → Kind
kind_of n =
    if nat_lt n 32 then block_kind_0 n
    else block_kind_1 n

-- the raw kind of a kind
abbrev pub number_of : Kind → ℕ
number_of Kind.Whitespace = 0
number_of Kind.Newline = 1
number_of Kind.Comment = 2
number_of Kind.Name = 3
number_of Kind.Text = 4
number_of Kind.Integer = 5
number_of Kind.Float = 6
number_of Kind.Boolean = 7
number_of Kind.Moment = 8
number_of Kind.Equals = 9
number_of Kind.Dot = 10
number_of Kind.Comma = 11
number_of Kind.LeftBracket = 12
number_of Kind.RightBracket = 13
number_of Kind.LeftBrace = 14
number_of Kind.RightBrace = 15
number_of Kind.LeftParen = 16
number_of Kind.RightParen = 17
number_of Kind.Unknown = 18
number_of Kind.Error = 19
number_of Kind.Document = 20
number_of Kind.Table = 21
number_of Kind.ArrayTable = 22
number_of Kind.Header = 23
number_of Kind.ArrayHeader = 24
number_of Kind.Entry = 25
number_of Kind.Key = 26
number_of Kind.BareKey = 27
number_of Kind.QuotedKey = 28
number_of Kind.Note = 29
number_of Kind.TextLiteral = 30
number_of Kind.IntegerLiteral = 31
number_of Kind.FloatLiteral = 32
number_of Kind.BooleanLiteral = 33
number_of Kind.MomentLiteral = 34
number_of Kind.Array = 35
number_of Kind.InlineTable = 36
number_of Kind.Reference = 37
number_of Kind.Call = 38
number_of Kind.Arguments = 39

-- how the kinds are called
abbrev pub name_of : Kind → List ℕ
name_of Kind.Whitespace = codes "WHITESPACE"
name_of Kind.Newline = codes "NEWLINE"
name_of Kind.Comment = codes "COMMENT"
name_of Kind.Name = codes "NAME"
name_of Kind.Text = codes "TEXT"
name_of Kind.Integer = codes "INTEGER"
name_of Kind.Float = codes "FLOAT"
name_of Kind.Boolean = codes "BOOLEAN"
name_of Kind.Moment = codes "MOMENT"
name_of Kind.Equals = codes "EQUALS"
name_of Kind.Dot = codes "DOT"
name_of Kind.Comma = codes "COMMA"
name_of Kind.LeftBracket = codes "LEFT_BRACKET"
name_of Kind.RightBracket = codes "RIGHT_BRACKET"
name_of Kind.LeftBrace = codes "LEFT_BRACE"
name_of Kind.RightBrace = codes "RIGHT_BRACE"
name_of Kind.LeftParen = codes "LEFT_PAREN"
name_of Kind.RightParen = codes "RIGHT_PAREN"
name_of Kind.Unknown = codes "UNKNOWN"
name_of Kind.Error = codes "ERROR"
name_of Kind.Document = codes "DOCUMENT"
name_of Kind.Table = codes "TABLE"
name_of Kind.ArrayTable = codes "ARRAY_TABLE"
name_of Kind.Header = codes "HEADER"
name_of Kind.ArrayHeader = codes "ARRAY_HEADER"
name_of Kind.Entry = codes "ENTRY"
name_of Kind.Key = codes "KEY"
name_of Kind.BareKey = codes "BARE_KEY"
name_of Kind.QuotedKey = codes "QUOTED_KEY"
name_of Kind.Note = codes "NOTE"
name_of Kind.TextLiteral = codes "TEXT_LITERAL"
name_of Kind.IntegerLiteral = codes "INTEGER_LITERAL"
name_of Kind.FloatLiteral = codes "FLOAT_LITERAL"
name_of Kind.BooleanLiteral = codes "BOOLEAN_LITERAL"
name_of Kind.MomentLiteral = codes "MOMENT_LITERAL"
name_of Kind.Array = codes "ARRAY"
name_of Kind.InlineTable = codes "INLINE_TABLE"
name_of Kind.Reference = codes "REFERENCE"
name_of Kind.Call = codes "CALL"
name_of Kind.Arguments = codes "ARGUMENTS"

-- whether its tokens are always one word
abbrev pub is_keyword : Kind → Bool
is_keyword _ = false

-- whether its tokens always have one text that is no word
abbrev pub is_punct : Kind → Bool
is_punct Kind.Equals = true
is_punct Kind.Dot = true
is_punct Kind.Comma = true
is_punct Kind.LeftBracket = true
is_punct Kind.RightBracket = true
is_punct Kind.LeftBrace = true
is_punct Kind.RightBrace = true
is_punct Kind.LeftParen = true
is_punct Kind.RightParen = true
is_punct _ = false

-- the kind of the tokens that are always this word
abbrev pub keyword_of : List ℕ → Option Kind
keyword_of text =
    None
