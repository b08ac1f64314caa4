-- Written by rowan_grammar from script.ungram: change that, and not this file.
-- The kinds of Script.
use Rattle.std.specs.Prelude.{ℕ, ◌==◌, nat_lt, List, codes, if◌then◌else◌, Bool, true, false}
use Rattle.std.specs.Prelude.{Option, Some, None}
use Rattle.std.specs.Str.{bytes_eq}
use Rattle.script_syntax.specs.declared.kinds.Kind.{Kind}

abbrev pub block_kind_0 : ℕ → Kind
block_kind_0 n =
    if n == 0 then Kind.Whitespace
    else (if n == 1 then Kind.Comment
    else (if n == 2 then Kind.Remark
    else (if n == 3 then Kind.Name
    else (if n == 4 then Kind.Number
    else (if n == 5 then Kind.LetKw
    else (if n == 6 then Kind.FnKw
    else (if n == 7 then Kind.ReturnKw
    else (if n == 8 then Kind.UnionKw
    else (if n == 9 then Kind.Gt
    else (if n == 10 then Kind.Lt
    else (if n == 11 then Kind.Eq
    else (if n == 12 then Kind.Plus
    else (if n == 13 then Kind.Minus
    else (if n == 14 then Kind.Star
    else (if n == 15 then Kind.Slash
    else (if n == 16 then Kind.Comma
    else (if n == 17 then Kind.Colon
    else (if n == 18 then Kind.Semicolon
    else (if n == 19 then Kind.LParen
    else (if n == 20 then Kind.RParen
    else (if n == 21 then Kind.LBrace
    else (if n == 22 then Kind.RBrace
    else (if n == 23 then Kind.OpenQuote
    else (if n == 24 then Kind.CloseQuote
    else (if n == 25 then Kind.StringText
    else (if n == 26 then Kind.Escape
    else (if n == 27 then Kind.HoleOpen
    else (if n == 28 then Kind.HoleClose
    else (if n == 29 then Kind.Unknown
    else (if n == 30 then Kind.Shr
    else (if n == 31 then Kind.Shl
    else Kind.Error)))))))))))))))))))))))))))))))

abbrev pub block_kind_1 : ℕ → Kind
block_kind_1 n =
    if n == 32 then Kind.GtEq
    else (if n == 33 then Kind.LtEq
    else (if n == 34 then Kind.EqEq
    else (if n == 35 then Kind.Function
    else (if n == 36 then Kind.Parameters
    else (if n == 37 then Kind.Parameter
    else (if n == 38 then Kind.Union
    else (if n == 39 then Kind.Field
    else (if n == 40 then Kind.Block
    else (if n == 41 then Kind.Let
    else (if n == 42 then Kind.Return
    else (if n == 43 then Kind.Binary
    else (if n == 44 then Kind.Call
    else (if n == 45 then Kind.Arguments
    else (if n == 46 then Kind.Group
    else (if n == 47 then Kind.Text
    else (if n == 48 then Kind.Hole
    else (if n == 49 then Kind.Reference
    else (if n == 50 then Kind.Literal
    else (if n == 51 then Kind.TypeName
    else (if n == 52 then Kind.TypeArguments
    else (if n == 54 then Kind.Root
    else Kind.Error)))))))))))))))))))))

-- the kind that a raw kind means
abbrev pub kind_of : ℕ → Kind
kind_of n =
    if nat_lt n 32 then block_kind_0 n
    else block_kind_1 n

-- the raw kind of a kind
abbrev pub number_of : Kind → ℕ
number_of Kind.Whitespace = 0
number_of Kind.Comment = 1
number_of Kind.Remark = 2
number_of Kind.Name = 3
number_of Kind.Number = 4
number_of Kind.LetKw = 5
number_of Kind.FnKw = 6
number_of Kind.ReturnKw = 7
number_of Kind.UnionKw = 8
number_of Kind.Gt = 9
number_of Kind.Lt = 10
number_of Kind.Eq = 11
number_of Kind.Plus = 12
number_of Kind.Minus = 13
number_of Kind.Star = 14
number_of Kind.Slash = 15
number_of Kind.Comma = 16
number_of Kind.Colon = 17
number_of Kind.Semicolon = 18
number_of Kind.LParen = 19
number_of Kind.RParen = 20
number_of Kind.LBrace = 21
number_of Kind.RBrace = 22
number_of Kind.OpenQuote = 23
number_of Kind.CloseQuote = 24
number_of Kind.StringText = 25
number_of Kind.Escape = 26
number_of Kind.HoleOpen = 27
number_of Kind.HoleClose = 28
number_of Kind.Unknown = 29
number_of Kind.Shr = 30
number_of Kind.Shl = 31
number_of Kind.GtEq = 32
number_of Kind.LtEq = 33
number_of Kind.EqEq = 34
number_of Kind.Function = 35
number_of Kind.Parameters = 36
number_of Kind.Parameter = 37
number_of Kind.Union = 38
number_of Kind.Field = 39
number_of Kind.Block = 40
number_of Kind.Let = 41
number_of Kind.Return = 42
number_of Kind.Binary = 43
number_of Kind.Call = 44
number_of Kind.Arguments = 45
number_of Kind.Group = 46
number_of Kind.Text = 47
number_of Kind.Hole = 48
number_of Kind.Reference = 49
number_of Kind.Literal = 50
number_of Kind.TypeName = 51
number_of Kind.TypeArguments = 52
number_of Kind.Error = 53
number_of Kind.Root = 54

-- how the kinds are called
abbrev pub name_of : Kind → List ℕ
name_of Kind.Whitespace = codes "WHITESPACE"
name_of Kind.Comment = codes "COMMENT"
name_of Kind.Remark = codes "REMARK"
name_of Kind.Name = codes "NAME"
name_of Kind.Number = codes "NUMBER"
name_of Kind.LetKw = codes "LET_KW"
name_of Kind.FnKw = codes "FN_KW"
name_of Kind.ReturnKw = codes "RETURN_KW"
name_of Kind.UnionKw = codes "UNION_KW"
name_of Kind.Gt = codes "GT"
name_of Kind.Lt = codes "LT"
name_of Kind.Eq = codes "EQ"
name_of Kind.Plus = codes "PLUS"
name_of Kind.Minus = codes "MINUS"
name_of Kind.Star = codes "STAR"
name_of Kind.Slash = codes "SLASH"
name_of Kind.Comma = codes "COMMA"
name_of Kind.Colon = codes "COLON"
name_of Kind.Semicolon = codes "SEMICOLON"
name_of Kind.LParen = codes "L_PAREN"
name_of Kind.RParen = codes "R_PAREN"
name_of Kind.LBrace = codes "L_BRACE"
name_of Kind.RBrace = codes "R_BRACE"
name_of Kind.OpenQuote = codes "OPEN_QUOTE"
name_of Kind.CloseQuote = codes "CLOSE_QUOTE"
name_of Kind.StringText = codes "STRING_TEXT"
name_of Kind.Escape = codes "ESCAPE"
name_of Kind.HoleOpen = codes "HOLE_OPEN"
name_of Kind.HoleClose = codes "HOLE_CLOSE"
name_of Kind.Unknown = codes "UNKNOWN"
name_of Kind.Shr = codes "SHR"
name_of Kind.Shl = codes "SHL"
name_of Kind.GtEq = codes "GT_EQ"
name_of Kind.LtEq = codes "LT_EQ"
name_of Kind.EqEq = codes "EQ_EQ"
name_of Kind.Function = codes "FUNCTION"
name_of Kind.Parameters = codes "PARAMETERS"
name_of Kind.Parameter = codes "PARAMETER"
name_of Kind.Union = codes "UNION"
name_of Kind.Field = codes "FIELD"
name_of Kind.Block = codes "BLOCK"
name_of Kind.Let = codes "LET"
name_of Kind.Return = codes "RETURN"
name_of Kind.Binary = codes "BINARY"
name_of Kind.Call = codes "CALL"
name_of Kind.Arguments = codes "ARGUMENTS"
name_of Kind.Group = codes "GROUP"
name_of Kind.Text = codes "TEXT"
name_of Kind.Hole = codes "HOLE"
name_of Kind.Reference = codes "REFERENCE"
name_of Kind.Literal = codes "LITERAL"
name_of Kind.TypeName = codes "TYPE_NAME"
name_of Kind.TypeArguments = codes "TYPE_ARGUMENTS"
name_of Kind.Error = codes "ERROR"
name_of Kind.Root = codes "ROOT"

-- whether its tokens are always one word
abbrev pub is_keyword : Kind → Bool
is_keyword Kind.LetKw = true
is_keyword Kind.FnKw = true
is_keyword Kind.ReturnKw = true
is_keyword _ = false

-- whether its tokens always have one text that is no word
abbrev pub is_punct : Kind → Bool
is_punct Kind.Gt = true
is_punct Kind.Lt = true
is_punct Kind.Eq = true
is_punct Kind.Plus = true
is_punct Kind.Minus = true
is_punct Kind.Star = true
is_punct Kind.Slash = true
is_punct Kind.Comma = true
is_punct Kind.Colon = true
is_punct Kind.Semicolon = true
is_punct Kind.LParen = true
is_punct Kind.RParen = true
is_punct Kind.LBrace = true
is_punct Kind.RBrace = true
is_punct Kind.Shr = true
is_punct Kind.Shl = true
is_punct Kind.GtEq = true
is_punct Kind.LtEq = true
is_punct Kind.EqEq = true
is_punct _ = false

-- the kind of the tokens that are always this word
abbrev pub keyword_of : List ℕ → Option Kind
keyword_of text =
    if bytes_eq text (codes "let") then Some Kind.LetKw
    else (if bytes_eq text (codes "fn") then Some Kind.FnKw
    else (if bytes_eq text (codes "return") then Some Kind.ReturnKw
    else None))

-- whether its tokens are in the set `Blank`
abbrev pub is_in_blank : Kind → Bool
is_in_blank Kind.Whitespace = true
is_in_blank Kind.Comment = true
is_in_blank Kind.Remark = true
is_in_blank _ = false

-- whether its tokens are in the set `Closings`
abbrev pub is_in_closings : Kind → Bool
is_in_closings Kind.RParen = true
is_in_closings Kind.RBrace = true
is_in_closings Kind.HoleClose = true
is_in_closings _ = false

-- whether its tokens are in the set `ListEnds`
abbrev pub is_in_list_ends : Kind → Bool
is_in_list_ends Kind.Comma = true
is_in_list_ends Kind.RParen = true
is_in_list_ends Kind.RBrace = true
is_in_list_ends Kind.HoleClose = true
is_in_list_ends _ = false

-- whether its tokens are in the set `BlockEnds`
abbrev pub is_in_block_ends : Kind → Bool
is_in_block_ends Kind.RBrace = true
is_in_block_ends Kind.HoleClose = true
is_in_block_ends _ = false

-- whether its tokens are in the set `StatementEnds`
abbrev pub is_in_statement_ends : Kind → Bool
is_in_statement_ends Kind.Semicolon = true
is_in_statement_ends Kind.RBrace = true
is_in_statement_ends Kind.HoleClose = true
is_in_statement_ends _ = false

-- whether its tokens are in the set `Operands`
abbrev pub is_in_operands : Kind → Bool
is_in_operands Kind.Name = true
is_in_operands Kind.Number = true
is_in_operands Kind.OpenQuote = true
is_in_operands Kind.LParen = true
is_in_operands Kind.LBrace = true
is_in_operands _ = false

-- whether its tokens are in the set `Keywords`
abbrev pub is_in_keywords : Kind → Bool
is_in_keywords Kind.LetKw = true
is_in_keywords Kind.FnKw = true
is_in_keywords Kind.ReturnKw = true
is_in_keywords _ = false
