-- Written by rowan_grammar from settings.ungram: change that, and not this file.
-- The kinds of Settings.
use Rattle.std.specs.Prelude.{ℕ, ◌==◌, List, codes, if◌then◌else◌, Bool, true, false}
use Rattle.std.specs.Prelude.{Option, Some, None}
use Rattle.std.specs.Str.{bytes_eq}
use Rattle.std.specs.Prelude.{nat_eq}
use Rattle.std.specs.List.{starts_with}
use Rattle.guide_language.specs.declared.kinds.Kind.{Kind}

-- the kind that a raw kind means
abbrev pub kind_of : ℕ → Kind
kind_of n =
    if n == 0 then Kind.Whitespace
    else (if n == 1 then Kind.Comment
    else (if n == 2 then Kind.Newline
    else (if n == 3 then Kind.Key
    else (if n == 4 then Kind.Name
    else (if n == 5 then Kind.Number
    else (if n == 6 then Kind.Text
    else (if n == 7 then Kind.True
    else (if n == 8 then Kind.False
    else (if n == 9 then Kind.Equals
    else (if n == 10 then Kind.Open
    else (if n == 11 then Kind.Close
    else (if n == 12 then Kind.Unknown
    else (if n == 14 then Kind.File
    else (if n == 15 then Kind.Section
    else (if n == 16 then Kind.Header
    else (if n == 17 then Kind.Entry
    else (if n == 18 then Kind.Value
    else Kind.Error)))))))))))))))))

-- the raw kind of a kind
abbrev pub number_of : Kind → ℕ
number_of Kind.Whitespace = 0
number_of Kind.Comment = 1
number_of Kind.Newline = 2
number_of Kind.Key = 3
number_of Kind.Name = 4
number_of Kind.Number = 5
number_of Kind.Text = 6
number_of Kind.True = 7
number_of Kind.False = 8
number_of Kind.Equals = 9
number_of Kind.Open = 10
number_of Kind.Close = 11
number_of Kind.Unknown = 12
number_of Kind.Error = 13
number_of Kind.File = 14
number_of Kind.Section = 15
number_of Kind.Header = 16
number_of Kind.Entry = 17
number_of Kind.Value = 18

-- how the kinds are called
abbrev pub name_of : Kind → List ℕ
name_of Kind.Whitespace = codes "WHITESPACE"
name_of Kind.Comment = codes "COMMENT"
name_of Kind.Newline = codes "NEWLINE"
name_of Kind.Key = codes "KEY"
name_of Kind.Name = codes "NAME"
name_of Kind.Number = codes "NUMBER"
name_of Kind.Text = codes "TEXT"
name_of Kind.True = codes "TRUE"
name_of Kind.False = codes "FALSE"
name_of Kind.Equals = codes "EQUALS"
name_of Kind.Open = codes "OPEN"
name_of Kind.Close = codes "CLOSE"
name_of Kind.Unknown = codes "UNKNOWN"
name_of Kind.Error = codes "ERROR"
name_of Kind.File = codes "FILE"
name_of Kind.Section = codes "SECTION"
name_of Kind.Header = codes "HEADER"
name_of Kind.Entry = codes "ENTRY"
name_of Kind.Value = codes "VALUE"

-- whether its tokens are always one word
abbrev pub is_keyword : Kind → Bool
is_keyword Kind.True = true
is_keyword Kind.False = true
is_keyword _ = false

-- whether its tokens always have one text that is no word
abbrev pub is_punct : Kind → Bool
is_punct Kind.Equals = true
is_punct Kind.Open = true
is_punct Kind.Close = true
is_punct _ = false

-- the kind of the tokens that are always this word
abbrev pub keyword_of : List ℕ → Option Kind
keyword_of text =
    if bytes_eq text (codes "true") then Some Kind.True
    else (if bytes_eq text (codes "false") then Some Kind.False
    else None)

-- the kind and the length of the longest sign with which a text begins
abbrev pub sign_of : List ℕ → Option (Kind × ℕ)
sign_of text =
    if starts_with nat_eq text (codes "=") then Some (Kind.Equals, 1)
    else (if starts_with nat_eq text (codes "[") then Some (Kind.Open, 1)
    else (if starts_with nat_eq text (codes "]") then Some (Kind.Close, 1)
    else None))
