-- Lines of a text, each of which ends behind a byte 10.
use Rattle.std.specs.Prelude.{◌≡◌, ℕ, suc, ◌+◌, ◌-◌, ◌<◌, ◌≤◌, ◌==◌, Bool, true, false, List, []}
use Rattle.std.specs.Prelude.{◌∷◌, ◌++◌, ◌&&◌, if◌then◌else◌}
use Rattle.std.specs.Prelude.{length, take, get_or, slice_range}
use Rattle.std.specs.Char.Escape.{encode_utf16}
use Rattle.std.specs.Str.{chars, IsCharBoundary, encode_utf8_all}
use Rattle.rowan_lines.specs.declared.line_index.LineColumn.{LineColumn}

-- one more where there is an end
abbrev pub counted : Bool → ℕ → ℕ
counted true n = suc n
counted false n = n

-- how many lines end in these bytes
abbrev pub line_ends : List ℕ → ℕ
line_ends [] = 0
line_ends (b ∷ bs) = counted (b == 10) (line_ends bs)

-- none behind an end, and else one more
abbrev pub since : Bool → ℕ → ℕ
since true n = 0
since false n = n + 1

-- how many bytes stand behind the last end, where n stand before all of these
abbrev pub bytes_since : ℕ → List ℕ → ℕ
bytes_since n [] = n
bytes_since n (b ∷ bs) = bytes_since (since (b == 10) n) bs

abbrev pub with_start : Bool → ℕ → List ℕ → List ℕ
with_start true start starts = start ∷ starts
with_start false start starts = starts

-- the offsets behind the ends, where the bytes begin at offset n
abbrev pub starts_from : ℕ → List ℕ → List ℕ
starts_from n [] = []
starts_from n (b ∷ bs) = with_start (b == 10) (n + 1) (starts_from (n + 1) bs)

-- the offsets at which the lines begin
abbrev pub line_starts : List ℕ → List ℕ
line_starts text = 0 ∷ starts_from 0 text

-- the offset at which line number n starts; where the text has no such line, that of its end
abbrev pub line_start : List ℕ → ℕ → ℕ
line_start text n = get_or (line_starts text) n (length text)

-- `\n` or `\r\n`
abbrev pub is_end : List ℕ → Bool
is_end (b ∷ []) = b == 10
is_end (b ∷ c ∷ []) = (b == 13) && (c == 10)
is_end _ = false

-- a line without its end
abbrev pub without_end : List ℕ → List ℕ
without_end [] = []
without_end (b ∷ bs) = if is_end (b ∷ bs) then [] else (b ∷ without_end bs)

abbrev pub line_text : List ℕ → ℕ → List ℕ
line_text text n = without_end (slice_range text (line_start text n) (line_start text (n + 1)))

-- the offset is in the text, and has this line and column
pub record IsInLine (text : List ℕ) (offset : ℕ) (place : LineColumn) : Type 0 where
  pub within : offset ≤ length text
  pub line : place.line ≡ line_ends (take offset text)
  pub column : place.column ≡ bytes_since 0 (take offset text)

-- start number i is the last one that is not past the offset
pub record IsLast (starts : List ℕ) (offset i : ℕ) : Type 0 where
  pub there : i < length starts
  pub reached : get_or starts i 0 ≤ offset
  pub last : i + 1 < length starts → offset < get_or starts (i + 1) 0

-- the text from the start of the place's line up to the place, where a character ends
pub record IsLineUpTo (text : List ℕ) (place : LineColumn) (before : List ℕ) : Type 0 where
  pub offset : ℕ
  pub at : IsInLine text offset place
  pub border : IsCharBoundary text offset
  pub is : before ≡ slice_range text (offset - place.column) offset

-- how many units of UTF-16 the characters take
abbrev pub utf16_len : List ℕ → ℕ
utf16_len [] = 0
utf16_len (c ∷ cs) = length (encode_utf16 c) + utf16_len cs

-- the characters of the text up to this byte take so many units of UTF-16
pub record IsUtf16End (text : List ℕ) (units at : ℕ) : Type 0 where
  pub front : List ℕ
  pub back : List ℕ
  pub cut : chars text ≡ front ++ back
  pub end : at ≡ length (encode_utf8_all front)
  pub counted : utf16_len front ≡ units

-- the other place has the same line, and its column counts the characters of the line up to the
-- place
pub record IsCounted (count : List ℕ → ℕ) (text : List ℕ) (place other : LineColumn) : Type 0 where
  pub before : List ℕ
  pub up_to : IsLineUpTo text place before
  pub line : other.line ≡ place.line
  pub column : other.column ≡ count (chars before)
