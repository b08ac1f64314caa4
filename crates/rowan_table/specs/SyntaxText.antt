-- Texts of nodes, and slices of them.
--     A slice is a node, as a cursor, and a range of the root's text within that of the node. Its
--     text is the root's text cut at the range. It is read in chunks: for each token of the node
--     whose range meets that of the slice, the ends of both included, the bytes that both have.
--     So a token that is empty or only touches the slice gives an empty chunk.
-- Offsets into a slice are bytes from its start.
use Rattle.std.specs.Prelude.{◌≡◌, ℕ, ◌+◌, ◌-◌, ◌<◌, ◌≤◌, Bool, ◌&&◌, ◌==◌, nat_le, if◌then◌else◌}
use Rattle.std.specs.Prelude.{List, [], ◌∷◌, ◌++◌, map, length, drop, slice_range, encode_utf8}
use Rattle.std.specs.Prelude.{unwrap_or, Option, Some, None}
use Rattle.std.specs.Option.{MatchOption}
use Rattle.std.specs.Cmp.{IsEquivalence, decided, on_equiv}
use Rattle.std.specs.Cmp.Lexicographic.{bytes_decides}
use lib.Pointwise.{pointwise}
use Rattle.std.specs.Char.{IsScalar}
use Rattle.std.specs.Str.{IsCharBoundary}
use Rattle.rowan_green.specs.declared.utility_types.NodeOrToken.TheVariants.{Node}
use Rattle.rowan_green.specs.Span.{Span}
use Rattle.rowan_green.specs.Term.{Term, node_text}
use Rattle.rowan_terms.specs.Path.{tokens, range}
use Rattle.rowan_table.specs.Cursor.{Cursor, term_at, text_at}
use Rattle.rowan_table.specs.Equal.{start_of}

-- a range of the text of a node
pub record TextSlice : Type 0 where
  pub node : Cursor
  pub range : Span

-- the whole text of a node
abbrev pub whole_text : Cursor → TextSlice
whole_text c = record { node = c; range = range (Node c.root) c.path }

-- the text of a slice
abbrev pub slice_text : TextSlice → List ℕ
slice_text s = slice_range (node_text s.node.root) s.range.start s.range.end

-- how many bytes a slice has
abbrev pub slice_len : TextSlice → ℕ
slice_len s = s.range.end - s.range.start

-- whether two slices have the same text, wherever they stand and however their tokens cut it
abbrev pub same_text : TextSlice → TextSlice → Bool
same_text s t = pointwise ◌==◌ (slice_text s) (slice_text t)

-- to have the same text is an equivalence
pub same_text-laws : IsEquivalence same_text
same_text-laws = on_equiv slice_text (decided (pointwise ◌==◌) bytes_decides)

-- the texts of the tokens of a term, in order
abbrev pub token_texts : Option Term → List (List ℕ)
token_texts None = []
token_texts (Some t) = map (λ token. token.text) (tokens t)

-- whether a text that starts at an offset meets a range, the ends of both included
abbrev pub meets : Span → ℕ → List ℕ → Bool
meets range at text = nat_le at range.end && nat_le range.start (at + length text)

-- the bytes of such a text that lie in the range
abbrev pub common_part : Span → ℕ → List ℕ → List ℕ
common_part range at text = slice_range text (range.start - at) (range.end - at)

-- the parts in a range of texts that stand one behind the other from an offset on
abbrev pub cut_chunks : Span → ℕ → List (List ℕ) → List (List ℕ)
cut_chunks range at [] = []
cut_chunks range at (text ∷ texts) =
    (if meets range at text then common_part range at text ∷ [] else [])
    ++ cut_chunks range (at + length text) texts

-- the chunks of a slice: for each token of its node that meets it, the bytes that both have
abbrev pub chunks : TextSlice → List (List ℕ)
chunks s = cut_chunks s.range (start_of s.node) (token_texts (term_at s.node))

-- a place in a text that is not inside a character
abbrev pub IsBorder : List ℕ → ℕ → Type 0
IsBorder text i = 0 < i → IsCharBoundary text i

-- the range lies within that of the node, and no end of it is inside a character
pub record IsTextSlice (s : TextSlice) : Type 0 where
  pub from : start_of s.node ≤ s.range.start
  pub order : s.range.start ≤ s.range.end
  pub to : s.range.end ≤ start_of s.node + length (text_at s.node)
  pub start_border : IsBorder (text_at s.node) (s.range.start - start_of s.node)
  pub end_border : IsBorder (text_at s.node) (s.range.end - start_of s.node)

-- the bytes from one offset to another, counted from the start of the slice, as a slice
abbrev pub part_of : TextSlice → ℕ → ℕ → TextSlice
part_of s start end =
    record {
      node = s.node;
      range = record { start = s.range.start + start; end = s.range.start + end };
    }

-- where a range of a slice starts: at the start of the slice where it names none
abbrev pub first_of : Option ℕ → ℕ
first_of start = unwrap_or start 0

-- where a range of a slice ends: at the end of the slice where it names none
abbrev pub last_of : TextSlice → Option ℕ → ℕ
last_of s end = unwrap_or end (slice_len s)

-- a range may be cut out: its bytes are there, and no character is cut
pub record CanCut (s : TextSlice) (start end : ℕ) : Type 0 where
  pub order : start ≤ end
  pub within : end ≤ slice_len s
  pub start_border : IsCharBoundary (slice_text s) start
  pub end_border : IsCharBoundary (slice_text s) end

-- the character c begins at byte i of a text
pub record HasChar (text : List ℕ) (i c : ℕ) : Type 0 where
  pub rest : List ℕ
  pub begins : drop i text ≡ encode_utf8 c ++ rest

-- the character c begins at byte i of a text, and at no byte before
pub record BeginsFirst (text : List ℕ) (c i : ℕ) : Type 0 where
  pub here : HasChar text i c
  pub first : (j : ℕ) → HasChar text j c → i ≤ j

-- the character c begins at no byte of a text
pub record LacksChar (text : List ℕ) (c : ℕ) : Type 0 where
  pub none : (i : ℕ) → HasChar text i c → ⊥

-- the byte at which the character c first begins in a text, if it is there
abbrev pub FindsChar : List ℕ → ℕ → Option ℕ → Type 0
FindsChar text c found = MatchOption found (LacksChar text c) (λ i. BeginsFirst text c i)

-- the character that begins at byte i of a text, if one does
abbrev pub ReadsChar : List ℕ → ℕ → Option ℕ → Type 0
ReadsChar text i found =
    MatchOption found ((c : ℕ) → IsScalar c → HasChar text i c → ⊥) (λ c. HasChar text i c)
