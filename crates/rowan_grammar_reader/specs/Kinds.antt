-- Written by rowan_grammar from grammar.ungram: change that, and not this file.
-- The kinds of Grammars.
use Rattle.std.specs.Prelude.{ℕ, ◌==◌, List, codes, if◌then◌else◌}
use Rattle.rowan_grammar_reader.specs.declared.syntax.Kind.{Kind}

-- the kind that a raw kind means
abbrev pub kind_of : ℕ → Kind
kind_of n =
    if n == 0 then Kind.Word
    else (if n == 1 then Kind.Keyword
    else (if n == 2 then Kind.Literal
    else (if n == 3 then Kind.Unclosed
    else (if n == 4 then Kind.Doc
    else (if n == 5 then Kind.Equals
    else (if n == 6 then Kind.Bar
    else (if n == 7 then Kind.Star
    else (if n == 8 then Kind.Question
    else (if n == 9 then Kind.Open
    else (if n == 10 then Kind.Close
    else (if n == 11 then Kind.Colon
    else (if n == 12 then Kind.Unknown
    else (if n == 13 then Kind.Whitespace
    else (if n == 14 then Kind.Comment
    else (if n == 15 then Kind.Head
    else (if n == 16 then Kind.Rule
    else (if n == 17 then Kind.Choice
    else (if n == 18 then Kind.Sequence
    else (if n == 19 then Kind.Part
    else (if n == 20 then Kind.Label
    else (if n == 21 then Kind.Group
    else (if n == 23 then Kind.Root
    else Kind.Error))))))))))))))))))))))

-- the raw kind of a kind
abbrev pub number_of : Kind → ℕ
number_of Kind.Word = 0
number_of Kind.Keyword = 1
number_of Kind.Literal = 2
number_of Kind.Unclosed = 3
number_of Kind.Doc = 4
number_of Kind.Equals = 5
number_of Kind.Bar = 6
number_of Kind.Star = 7
number_of Kind.Question = 8
number_of Kind.Open = 9
number_of Kind.Close = 10
number_of Kind.Colon = 11
number_of Kind.Unknown = 12
number_of Kind.Whitespace = 13
number_of Kind.Comment = 14
number_of Kind.Head = 15
number_of Kind.Rule = 16
number_of Kind.Choice = 17
number_of Kind.Sequence = 18
number_of Kind.Part = 19
number_of Kind.Label = 20
number_of Kind.Group = 21
number_of Kind.Error = 22
number_of Kind.Root = 23

-- how the kinds are called
abbrev pub name_of : Kind → List ℕ
name_of Kind.Word = codes "WORD"
name_of Kind.Keyword = codes "KEYWORD"
name_of Kind.Literal = codes "LITERAL"
name_of Kind.Unclosed = codes "UNCLOSED"
name_of Kind.Doc = codes "DOC"
name_of Kind.Equals = codes "EQUALS"
name_of Kind.Bar = codes "BAR"
name_of Kind.Star = codes "STAR"
name_of Kind.Question = codes "QUESTION"
name_of Kind.Open = codes "OPEN"
name_of Kind.Close = codes "CLOSE"
name_of Kind.Colon = codes "COLON"
name_of Kind.Unknown = codes "UNKNOWN"
name_of Kind.Whitespace = codes "WHITESPACE"
name_of Kind.Comment = codes "COMMENT"
name_of Kind.Head = codes "HEAD"
name_of Kind.Rule = codes "RULE"
name_of Kind.Choice = codes "CHOICE"
name_of Kind.Sequence = codes "SEQUENCE"
name_of Kind.Part = codes "PART"
name_of Kind.Label = codes "LABEL"
name_of Kind.Group = codes "GROUP"
name_of Kind.Error = codes "ERROR"
name_of Kind.Root = codes "ROOT"
