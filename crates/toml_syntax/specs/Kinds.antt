-- Written by rowan_grammar from toml.ungram: change that, and not this file.
-- The kinds of Toml.
use Rattle.std.specs.Prelude.{ℕ, ◌==◌, nat_lt, List, codes, if◌then◌else◌, Bool, true, false}
use Rattle.std.specs.Prelude.{Option, Some, None}
use Rattle.std.specs.Str.{bytes_eq}
use Rattle.std.specs.Prelude.{nat_eq}
use Rattle.std.specs.List.{starts_with}
use Rattle.toml_syntax.specs.declared.kinds.Kind.{Kind}

abbrev pub block_kind_0 : ℕ → Kind
block_kind_0 n =
    if n == 0 then Kind.Whitespace
    else (if n == 1 then Kind.Comment
    else (if n == 2 then Kind.Newline
    else (if n == 3 then Kind.BareKey
    else (if n == 4 then Kind.BasicString
    else (if n == 5 then Kind.LiteralString
    else (if n == 6 then Kind.MultiLineBasicString
    else (if n == 7 then Kind.MultiLineLiteralString
    else (if n == 8 then Kind.Integer
    else (if n == 9 then Kind.Float
    else (if n == 10 then Kind.Boolean
    else (if n == 11 then Kind.OffsetDateTime
    else (if n == 12 then Kind.LocalDateTime
    else (if n == 13 then Kind.LocalDate
    else (if n == 14 then Kind.LocalTime
    else (if n == 15 then Kind.Dot
    else (if n == 16 then Kind.Equals
    else (if n == 17 then Kind.Comma
    else (if n == 18 then Kind.LBracket
    else (if n == 19 then Kind.RBracket
    else (if n == 20 then Kind.LBrackets
    else (if n == 21 then Kind.RBrackets
    else (if n == 22 then Kind.LBrace
    else (if n == 23 then Kind.RBrace
    else (if n == 24 then Kind.Unknown
    else (if n == 26 then Kind.Document
    else (if n == 27 then Kind.Table
    else (if n == 28 then Kind.ArrayTable
    else (if n == 29 then Kind.Entry
    else (if n == 30 then Kind.Key
    else (if n == 31 then Kind.KeyPart
    else Kind.Error))))))))))))))))))))))))))))))

abbrev pub block_kind_1 : ℕ → Kind
block_kind_1 n =
    if n == 32 then Kind.Scalar
    else (if n == 33 then Kind.Array
    else (if n == 34 then Kind.InlineTable
    else Kind.Error))

-- the kind that a raw kind means
abbrev pub kind_of : ℕ → Kind
kind_of n =
    if nat_lt n 32 then block_kind_0 n
    else block_kind_1 n

-- the raw kind of a kind
abbrev pub number_of : Kind → ℕ
number_of Kind.Whitespace = 0
number_of Kind.Comment = 1
number_of Kind.Newline = 2
number_of Kind.BareKey = 3
number_of Kind.BasicString = 4
number_of Kind.LiteralString = 5
number_of Kind.MultiLineBasicString = 6
number_of Kind.MultiLineLiteralString = 7
number_of Kind.Integer = 8
number_of Kind.Float = 9
number_of Kind.Boolean = 10
number_of Kind.OffsetDateTime = 11
number_of Kind.LocalDateTime = 12
number_of Kind.LocalDate = 13
number_of Kind.LocalTime = 14
number_of Kind.Dot = 15
number_of Kind.Equals = 16
number_of Kind.Comma = 17
number_of Kind.LBracket = 18
number_of Kind.RBracket = 19
number_of Kind.LBrackets = 20
number_of Kind.RBrackets = 21
number_of Kind.LBrace = 22
number_of Kind.RBrace = 23
number_of Kind.Unknown = 24
number_of Kind.Error = 25
number_of Kind.Document = 26
number_of Kind.Table = 27
number_of Kind.ArrayTable = 28
number_of Kind.Entry = 29
number_of Kind.Key = 30
number_of Kind.KeyPart = 31
number_of Kind.Scalar = 32
number_of Kind.Array = 33
number_of Kind.InlineTable = 34

-- how the kinds are called
abbrev pub name_of : Kind → List ℕ
name_of Kind.Whitespace = codes "WHITESPACE"
name_of Kind.Comment = codes "COMMENT"
name_of Kind.Newline = codes "NEWLINE"
name_of Kind.BareKey = codes "BARE_KEY"
name_of Kind.BasicString = codes "BASIC_STRING"
name_of Kind.LiteralString = codes "LITERAL_STRING"
name_of Kind.MultiLineBasicString = codes "MULTI_LINE_BASIC_STRING"
name_of Kind.MultiLineLiteralString = codes "MULTI_LINE_LITERAL_STRING"
name_of Kind.Integer = codes "INTEGER"
name_of Kind.Float = codes "FLOAT"
name_of Kind.Boolean = codes "BOOLEAN"
name_of Kind.OffsetDateTime = codes "OFFSET_DATE_TIME"
name_of Kind.LocalDateTime = codes "LOCAL_DATE_TIME"
name_of Kind.LocalDate = codes "LOCAL_DATE"
name_of Kind.LocalTime = codes "LOCAL_TIME"
name_of Kind.Dot = codes "DOT"
name_of Kind.Equals = codes "EQUALS"
name_of Kind.Comma = codes "COMMA"
name_of Kind.LBracket = codes "L_BRACKET"
name_of Kind.RBracket = codes "R_BRACKET"
name_of Kind.LBrackets = codes "L_BRACKETS"
name_of Kind.RBrackets = codes "R_BRACKETS"
name_of Kind.LBrace = codes "L_BRACE"
name_of Kind.RBrace = codes "R_BRACE"
name_of Kind.Unknown = codes "UNKNOWN"
name_of Kind.Error = codes "ERROR"
name_of Kind.Document = codes "DOCUMENT"
name_of Kind.Table = codes "TABLE"
name_of Kind.ArrayTable = codes "ARRAY_TABLE"
name_of Kind.Entry = codes "ENTRY"
name_of Kind.Key = codes "KEY"
name_of Kind.KeyPart = codes "KEY_PART"
name_of Kind.Scalar = codes "SCALAR"
name_of Kind.Array = codes "ARRAY"
name_of Kind.InlineTable = codes "INLINE_TABLE"

-- whether its tokens are always one word
abbrev pub is_keyword : Kind → Bool
is_keyword _ = false

-- whether its tokens always have one text that is no word
abbrev pub is_punct : Kind → Bool
is_punct Kind.Dot = true
is_punct Kind.Equals = true
is_punct Kind.Comma = true
is_punct Kind.LBracket = true
is_punct Kind.RBracket = true
is_punct Kind.LBrackets = true
is_punct Kind.RBrackets = true
is_punct Kind.LBrace = true
is_punct Kind.RBrace = true
is_punct _ = false

-- the kind of the tokens that are always this word
abbrev pub keyword_of : List ℕ → Option Kind
keyword_of text =
    None

-- the kind and the length of the longest sign with which a text begins
abbrev pub sign_of : List ℕ → Option (Kind × ℕ)
sign_of text =
    if starts_with nat_eq text (codes "[[") then Some (Kind.LBrackets, 2)
    else (if starts_with nat_eq text (codes "]]") then Some (Kind.RBrackets, 2)
    else (if starts_with nat_eq text (codes ".") then Some (Kind.Dot, 1)
    else (if starts_with nat_eq text (codes "=") then Some (Kind.Equals, 1)
    else (if starts_with nat_eq text (codes ",") then Some (Kind.Comma, 1)
    else (if starts_with nat_eq text (codes "[") then Some (Kind.LBracket, 1)
    else (if starts_with nat_eq text (codes "]") then Some (Kind.RBracket, 1)
    else (if starts_with nat_eq text (codes "{") then Some (Kind.LBrace, 1)
    else (if starts_with nat_eq text (codes "}") then Some (Kind.RBrace, 1)
    else None))))))))
