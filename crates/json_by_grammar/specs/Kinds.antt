-- Written by rowan_grammar from json.ungram: change that, and not this file.
-- The kinds of Json.
use Rattle.std.specs.Prelude.{ℕ, ◌==◌, List, codes, if◌then◌else◌, Bool, true, false}
use Rattle.std.specs.Prelude.{Option, Some, None}
use Rattle.std.specs.Str.{bytes_eq}
use Rattle.std.specs.Prelude.{nat_eq}
use Rattle.std.specs.List.{starts_with}
use Rattle.json_by_grammar.specs.declared.kinds.Kind.{Kind}

-- the kind that a raw kind means
abbrev pub kind_of : ℕ → Kind
kind_of n =
    if n == 0 then Kind.Whitespace
    else (if n == 1 then Kind.Comment
    else (if n == 2 then Kind.String
    else (if n == 3 then Kind.Number
    else (if n == 4 then Kind.Word
    else (if n == 5 then Kind.LBrace
    else (if n == 6 then Kind.RBrace
    else (if n == 7 then Kind.LBracket
    else (if n == 8 then Kind.RBracket
    else (if n == 9 then Kind.Comma
    else (if n == 10 then Kind.Colon
    else (if n == 11 then Kind.Unknown
    else (if n == 12 then Kind.Object
    else (if n == 13 then Kind.Member
    else (if n == 14 then Kind.Array
    else (if n == 15 then Kind.Literal
    else (if n == 17 then Kind.Root
    else Kind.Error))))))))))))))))

-- the raw kind of a kind
abbrev pub number_of : Kind → ℕ
number_of Kind.Whitespace = 0
number_of Kind.Comment = 1
number_of Kind.String = 2
number_of Kind.Number = 3
number_of Kind.Word = 4
number_of Kind.LBrace = 5
number_of Kind.RBrace = 6
number_of Kind.LBracket = 7
number_of Kind.RBracket = 8
number_of Kind.Comma = 9
number_of Kind.Colon = 10
number_of Kind.Unknown = 11
number_of Kind.Object = 12
number_of Kind.Member = 13
number_of Kind.Array = 14
number_of Kind.Literal = 15
number_of Kind.Error = 16
number_of Kind.Root = 17

-- how the kinds are called
abbrev pub name_of : Kind → List ℕ
name_of Kind.Whitespace = codes "WHITESPACE"
name_of Kind.Comment = codes "COMMENT"
name_of Kind.String = codes "STRING"
name_of Kind.Number = codes "NUMBER"
name_of Kind.Word = codes "WORD"
name_of Kind.LBrace = codes "L_BRACE"
name_of Kind.RBrace = codes "R_BRACE"
name_of Kind.LBracket = codes "L_BRACKET"
name_of Kind.RBracket = codes "R_BRACKET"
name_of Kind.Comma = codes "COMMA"
name_of Kind.Colon = codes "COLON"
name_of Kind.Unknown = codes "UNKNOWN"
name_of Kind.Object = codes "OBJECT"
name_of Kind.Member = codes "MEMBER"
name_of Kind.Array = codes "ARRAY"
name_of Kind.Literal = codes "LITERAL"
name_of Kind.Error = codes "ERROR"
name_of Kind.Root = codes "ROOT"

-- whether its tokens are always one word
abbrev pub is_keyword : Kind → Bool
is_keyword _ = false

-- whether its tokens always have one text that is no word
abbrev pub is_punct : Kind → Bool
is_punct Kind.LBrace = true
is_punct Kind.RBrace = true
is_punct Kind.LBracket = true
is_punct Kind.RBracket = true
is_punct Kind.Comma = true
is_punct Kind.Colon = true
is_punct _ = false

-- the kind of the tokens that are always this word
abbrev pub keyword_of : List ℕ → Option Kind
keyword_of text =
    None

-- the kind and the length of the longest sign with which a text begins
abbrev pub sign_of : List ℕ → Option (Kind × ℕ)
sign_of text =
    if starts_with nat_eq text (codes "{") then Some (Kind.LBrace, 1)
    else (if starts_with nat_eq text (codes "}") then Some (Kind.RBrace, 1)
    else (if starts_with nat_eq text (codes "[") then Some (Kind.LBracket, 1)
    else (if starts_with nat_eq text (codes "]") then Some (Kind.RBracket, 1)
    else (if starts_with nat_eq text (codes ",") then Some (Kind.Comma, 1)
    else (if starts_with nat_eq text (codes ":") then Some (Kind.Colon, 1)
    else None)))))
