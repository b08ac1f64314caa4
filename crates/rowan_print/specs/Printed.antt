-- Printed forms: the debug line of a term, the debug lines of all that is in it, and its JSON.
-- They depend on the term, on the offset where its text starts in the whole text, and on how each
-- raw kind is called. Lines are relations, since the library does not say which characters past
-- ASCII it writes as their codes: `IsEscape` says what it leaves open.
use Rattle.std.specs.Prelude.{◌≡◌, ℕ, ◌+◌, ◌*◌, ◌<◌, ◌≤◌, ◌⊎◌, ◌&&◌, ◌==◌, not, Bool, if◌then◌else◌}
use Rattle.std.specs.Prelude.{nat_lt, nat_le, List, [], ◌∷◌, ◌++◌, length, take, drop, replicate}
use Rattle.std.specs.Prelude.{decimal, codes, chars, Option, Some, None}
use Rattle.std.specs.List.{take_while}
use Rattle.std.specs.Char.{encode_utf8}
use Rattle.std.specs.Char.Escape.{backslash, escape_unicode}
use Rattle.std.specs.Fmt.{debug_escape}
use Rattle.serde_json.specs.Data.{Data, null, number, unsigned, string, array, object, member}
use Rattle.serde_json.specs.Data.{no_members}
use Rattle.serde_json.specs.View.{items_of}
use Rattle.rowan_green.specs.declared.utility_types.NodeOrToken.TheVariants.{Node, Token}
use Rattle.rowan_green.specs.Term.{TokenTerm, NodeTerm, node, Forest, empty, node_then, token_then}
use Rattle.rowan_green.specs.Term.{Term, node_kind, term_kind, node_len, token_len}
use Rattle.rowan_terms.specs.Path.{offset}
use Rattle.rowan_green.specs.Span.{Span}
use Rattle.rowan_table.specs.Cursor.{Cursor, term_at}

-- how raw kinds are called, by the kinds that they mean
abbrev pub raw_name : {Kind : Type 0} → (Kind → List ℕ) → (ℕ → Kind) → ℕ → List ℕ
raw_name name meaning raw = name (meaning raw)

-- where a text of a length lies
abbrev pub extent : ℕ → ℕ → Span
extent start len = record { start = start; end = start + len }

-- new is old, and behind it one of these texts
abbrev pub Adds : (List ℕ → Type 0) → (old new : List ℕ) → Type 0
Adds Is old new = (added : List ℕ) × Is added × (new ≡ old ++ added)

-- ---- texts in quotes

-- a text of so many bytes is long
abbrev pub long_length : ℕ
long_length = 25

-- the first byte at which a long text may be cut
abbrev pub first_cut : ℕ
first_cut = 21

abbrev pub is_long : List ℕ → Bool
is_long text = nat_le long_length (length text)

-- a byte that goes on with a character
abbrev pub goes_on : ℕ → Bool
goes_on byte = nat_le 128 byte && nat_lt byte 192

-- the part of a text before the first border of characters from the first cut on
abbrev pub front_of : List ℕ → List ℕ
front_of text = take first_cut text ++ take_while goes_on (drop first_cut text)

-- the part of a text that stands in quotes, and what stands there behind it
abbrev pub visible_part : List ℕ → List ℕ
visible_part text = if is_long text then front_of text else text

abbrev pub points_of : List ℕ → List ℕ
points_of text = if is_long text then codes " ..." else []

-- the code of `"`
abbrev pub double_quote : ℕ
double_quote = 34

-- what stands in quotes for a character: its escape in ASCII; past ASCII the character itself or
-- its code, as in `\u{ad}`, and nothing says which
abbrev pub IsEscape : (character : ℕ) (escape : List ℕ) → Type 0
IsEscape character escape = (character < 128 → escape ≡ debug_escape double_quote character)
    × (128 ≤ character → (escape ≡ encode_utf8 character) ⊎ (escape ≡ escape_unicode character))

-- what stands in quotes for characters, one behind the other
abbrev pub AreEscapes : (characters escapes : List ℕ) → Type 0
AreEscapes [] escapes = escapes ≡ []
AreEscapes (character ∷ characters) escapes = (first : List ℕ) × (rest : List ℕ)
    × IsEscape character first × AreEscapes characters rest × (escapes ≡ first ++ rest)

-- a character that stands for itself in quotes: one of ASCII that prints, but `"` and the backslash
abbrev pub is_plain : ℕ → Bool
is_plain character = nat_le 32 character && nat_le character 126
    && not (character == double_quote) && not (character == backslash)

-- ---- lines

-- a kind and a range, as KIND@start..end
abbrev pub headline : List ℕ → Span → List ℕ
headline kind range = kind ++ codes "@" ++ decimal range.start ++ codes ".." ++ decimal range.end

abbrev pub node_line : (ℕ → List ℕ) → ℕ → NodeTerm → List ℕ
node_line name start n = headline (name (node_kind n)) (extent start (node_len n))

-- the line of a text of a kind and a range: the headline, and the text in quotes
pub record IsTextLine (kind : List ℕ) (range : Span) (text line : List ℕ) : Type 0 where
  pub inside : List ℕ
  pub escapes : AreEscapes (chars (visible_part text)) inside
  pub whole : line ≡ headline kind range ++ codes " \"" ++ inside ++ points_of text ++ codes "\""

abbrev pub IsTokenLine : (ℕ → List ℕ) → ℕ → TokenTerm → List ℕ → Type 0
IsTokenLine name start t line = IsTextLine (name t.kind) (extent start (token_len t)) t.text line

-- a line at a level, with two spaces for each level and the newline
abbrev pub line_at : ℕ → List ℕ → List ℕ
line_at level line = replicate (2 * level) 32 ++ line ++ codes "\n"

abbrev mutual
  -- the lines of a node and of all that is in it, from the offset and at the level of the node
  pub AreNodeLines : (ℕ → List ℕ) → ℕ → ℕ → NodeTerm → List ℕ → Type 0
  AreNodeLines name start level (node k f) lines = (below : List ℕ)
      × AreForestLines name start (level + 1) f below
      × (lines ≡ line_at level (node_line name start (node k f)) ++ below)

  pub AreForestLines : (ℕ → List ℕ) → ℕ → ℕ → Forest → List ℕ → Type 0
  AreForestLines name start level empty lines = lines ≡ []
  AreForestLines name start level (node_then n f) lines = (own : List ℕ) × (rest : List ℕ)
      × AreNodeLines name start level n own
      × AreForestLines name (start + node_len n) level f rest
      × (lines ≡ own ++ rest)
  AreForestLines name start level (token_then t f) lines = (own : List ℕ) × (rest : List ℕ)
      × IsTokenLine name start t own
      × AreForestLines name (start + token_len t) level f rest
      × (lines ≡ line_at level own ++ rest)

abbrev pub IsTermLine : (ℕ → List ℕ) → ℕ → Term → List ℕ → Type 0
IsTermLine name start (Node n) line = line ≡ node_line name start n
IsTermLine name start (Token t) line = IsTokenLine name start t line

abbrev pub AreTermLines : (ℕ → List ℕ) → ℕ → ℕ → Term → List ℕ → Type 0
AreTermLines name start level (Node n) lines = AreNodeLines name start level n lines
AreTermLines name start level (Token t) lines = (line : List ℕ)
    × IsTokenLine name start t line × (lines ≡ line_at level line)

-- this is printed of a term, if there is one
abbrev pub IsPrinted : (Term → List ℕ → Type 0) → Option Term → List ℕ → Type 0
IsPrinted Prints None text = text ≡ []
IsPrinted Prints (Some t) text = Prints t text

-- the line of what stands at a cursor
abbrev pub IsDebugLine : (ℕ → List ℕ) → Cursor → List ℕ → Type 0
IsDebugLine name c line =
    IsPrinted (IsTermLine name (offset (Node c.root) c.path)) (term_at c) line

-- the lines of what stands at a cursor and of all that is in it
abbrev pub IsDebugTree : (ℕ → List ℕ) → Cursor → List ℕ → Type 0
IsDebugTree name c lines =
    IsPrinted (AreTermLines name (offset (Node c.root) c.path) 0) (term_at c) lines

-- ---- JSON

-- a range, as the list of its start and its end
abbrev pub range_json : Span → Data
range_json range =
    array (items_of (number (unsigned range.start) ∷ number (unsigned range.end) ∷ []))

-- a node of a kind, with the values of its children
abbrev pub node_object : List ℕ → Span → List Data → Data
node_object kind range children =
    object (member (codes "children") (array (items_of children))
    (member (codes "kind") (string kind)
    (member (codes "text_range") (range_json range) no_members)))

-- a token of a kind
abbrev pub token_object : List ℕ → Span → List ℕ → Data
token_object kind range text =
    object (member (codes "kind") (string kind)
    (member (codes "text") (string text)
    (member (codes "text_range") (range_json range) no_members)))

abbrev pub token_json : (ℕ → List ℕ) → ℕ → TokenTerm → Data
token_json name start t = token_object (name t.kind) (extent start (token_len t)) t.text

abbrev mutual
  -- the value of a node that starts at an offset, and the values of its children, tokens too
  pub node_json : (ℕ → List ℕ) → ℕ → NodeTerm → Data
  node_json name start (node k f) =
      node_object (name k) (extent start (node_len (node k f))) (forest_json name start f)

  pub forest_json : (ℕ → List ℕ) → ℕ → Forest → List Data
  forest_json name start empty = []
  forest_json name start (node_then n f) =
      node_json name start n ∷ forest_json name (start + node_len n) f
  forest_json name start (token_then t f) =
      token_json name start t ∷ forest_json name (start + token_len t) f

abbrev pub term_json : (ℕ → List ℕ) → ℕ → Term → Data
term_json name start (Node n) = node_json name start n
term_json name start (Token t) = token_json name start t

-- the value of a term, if there is one
abbrev pub json_of : (Term → Data) → Option Term → Data
json_of value None = null
json_of value (Some t) = value t

-- the JSON of what stands at a cursor
abbrev pub tree_json : (ℕ → List ℕ) → Cursor → Data
tree_json name c = json_of (term_json name (offset (Node c.root) c.path)) (term_at c)

abbrev pub term_name : (ℕ → List ℕ) → Option Term → List ℕ
term_name name None = []
term_name name (Some t) = name (term_kind t)

-- how the kind of what stands at a cursor is called
abbrev pub kind_name : (ℕ → List ℕ) → Cursor → List ℕ
kind_name name c = term_name name (term_at c)
