-- Text as it is shown: without characters that would move a cursor, ring, or turn a line round.
use Rattle.std.specs.Prelude.{ℕ, ◌+◌, ◌==◌, ◌||◌, nat_lt, Bool, false, if◌then◌else◌, List}
use Rattle.std.specs.Prelude.{codes, chars}
use Rattle.std.specs.Char.{encode_utf8}
use Rattle.std.specs.Int.{is_in_range}
use Rattle.std.specs.List.{flat_map}
use Rattle.unicode_width.specs.Width.{str_width}

-- has no picture: a control character of Latin-1, or one that turns the direction of the text
abbrev pub is_unshown : ℕ → Bool
is_unshown c =
    is_in_range 0x80 0x9F c || (is_in_range 0x202A 0x202E c || is_in_range 0x2066 0x2069 c)

-- the character that is shown for this one
abbrev pub shown_as : ℕ → ℕ
shown_as c =
    if nat_lt c 0x20 then 0x2400 + c
    else if c == 0x7F then 0x2421
    else if is_unshown c then 0xFFFD
    else c

-- four spaces for a tab
abbrev pub picture : ℕ → List ℕ
picture c = if c == 9 then codes "    " else encode_utf8 (shown_as c)

abbrev pub pictured : List ℕ → List ℕ
pictured text = flat_map picture (chars text)

-- how many columns of a terminal the text takes
abbrev pub columns : List ℕ → ℕ
columns text = str_width false (chars text)
