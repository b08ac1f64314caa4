-- A diagnostic as text, in the layout of `rustc`.
use Rattle.std.specs.Prelude.{ℕ, ◌+◌, ◌-◌, ◌≤◌, ◌⊎◌, max, List, [], ◌∷◌, ◌++◌, length, take, drop}
use Rattle.std.specs.Prelude.{codes, chars, replicate, string_bytes, ⊤, ◌==◌, if◌then◌else◌}
use Rattle.std.specs.Fmt.{decimal}
use Rattle.std.specs.Str.{IsCharBoundary}
use Rattle.rowan_green.specs.Span.{Span}
use Rattle.rowan_lines.specs.Lines.{line_ends, bytes_since, line_text}
use Rattle.rowan_lines.specs.Pictures.{pictured, columns}
use Rattle.rowan_lines.specs.declared.syntax_error.SyntaxError.{SyntaxError}
use Rattle.rowan_lines.specs.declared.rendering.Severity.{Severity}
use Rattle.rowan_lines.specs.declared.rendering.Severity.TheVariants.{Error, Warning, Note}

abbrev pub severity_name : Severity → List ℕ
severity_name Error = codes "error"
severity_name Warning = codes "warning"
severity_name Note = codes "note"

abbrev pub spaces : ℕ → List ℕ
spaces n = replicate n 32

abbrev pub carets : ℕ → List ℕ
carets n = replicate n 94

-- `error: expected a value`
abbrev pub header : Severity → List ℕ → List ℕ
header severity message =
    severity_name severity ++ (codes ": " ++ (pictured message ++ codes "\n"))

-- ` --> notes.json:3:7`
abbrev pub place_line : ℕ → List ℕ → ℕ → ℕ → List ℕ
place_line margin name line column =
    spaces margin ++ (codes "--> " ++ (pictured name ++ (codes ":" ++ (decimal line
    ++ (codes ":" ++ (decimal column ++ codes "\n"))))))

-- `  |`
abbrev pub bar_line : ℕ → List ℕ
bar_line margin = spaces margin ++ codes " |\n"

-- `3 | { "a": ,`
abbrev pub source_line : ℕ → List ℕ → List ℕ
source_line line shown = decimal line ++ (codes " | " ++ (shown ++ codes "\n"))

-- `  |        ^`
abbrev pub caret_line : ℕ → ℕ → ℕ → List ℕ
caret_line margin indent width =
    spaces margin ++ (codes " | " ++ (spaces indent ++ (carets (max 1 width) ++ codes "\n")))

-- A line with its place and carets: its number, which counts from 1, what stands before the range,
-- and what stands in it.
abbrev pub shown_line : List ℕ → ℕ → List ℕ → List ℕ → List ℕ → List ℕ
shown_line name number line before inside =
    place_line (length (decimal number)) name number (length (chars before) + 1)
    ++ (bar_line (length (decimal number))
    ++ (source_line number (pictured line)
    ++ caret_line (length (decimal number)) (columns (pictured before))
    (columns (pictured inside))))

-- the line of an offset, and the bytes of it before the offset
abbrev pub line_at : List ℕ → ℕ → List ℕ
line_at text offset = line_text text (line_ends (take offset text))

abbrev pub column_at : List ℕ → ℕ → ℕ
column_at text offset = bytes_since 0 (take offset text)

-- the line up to the end of a range that starts in it
abbrev pub line_to_end : List ℕ → Span → List ℕ
line_to_end text range =
    take (column_at text range.start + (range.end - range.start)) (line_at text range.start)

-- a range of a text with its line
abbrev pub shown_range : List ℕ → List ℕ → Span → List ℕ
shown_range name text range =
    shown_line name (line_ends (take range.start text) + 1) (line_at text range.start)
    (take (column_at text range.start) (line_to_end text range))
    (drop (column_at text range.start) (line_to_end text range))

-- a diagnostic, and the empty line behind it
abbrev pub diagnostic : Severity → List ℕ → List ℕ → List ℕ → Span → List ℕ
diagnostic severity message name text range =
    header severity message ++ (shown_range name text range ++ codes "\n")

-- a text may be cut there: a character begins, or the text has ended
abbrev pub IsCut : List ℕ → ℕ → Type 0
IsCut text at = IsCharBoundary text at ⊎ (length text ≤ at)

-- the line is short enough to be shown whole
pub record FitsWhole (line : List ℕ) : Type 0 where
  pub bytes : length line ≤ 640
  pub wide : columns (pictured line) ≤ 160

-- The range is in the text, starts and ends where characters do, has no byte in a later line than
-- its first one, and this line is shown whole.
pub record IsInShortLine (text : List ℕ) (range : Span) : Type 0 where
  pub start : IsCharBoundary text range.start
  pub end : IsCharBoundary text range.end
  pub one_line : line_ends (take (range.end - 1) text) ≤ line_ends (take range.start text)
  pub fits : FitsWhole (line_at text range.start)

-- ---- the errors of a text

abbrev pub error_text : List ℕ → List ℕ → SyntaxError → List ℕ
error_text name text error =
    diagnostic Error (string_bytes error.message) name text error.range

abbrev pub errors_text : List ℕ → List ℕ → List SyntaxError → List ℕ
errors_text name text [] = []
errors_text name text (e ∷ es) = error_text name text e ++ errors_text name text es

-- how many errors were not shown
abbrev pub more_text : ℕ → List ℕ
more_text n =
    if n == 0 then []
    else if n == 1 then codes "1 more error\n"
    else (decimal n ++ codes " more errors\n")

-- each of the errors is in one short line
abbrev pub AreInShortLines : List ℕ → List SyntaxError → Type 0
AreInShortLines text [] = ⊤
AreInShortLines text (e ∷ es) = IsInShortLine text e.range × AreInShortLines text es
