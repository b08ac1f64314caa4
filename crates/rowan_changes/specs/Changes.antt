-- Changes of a text: which ranges of it give way to how many bytes, and where other ranges go.
use Rattle.std.specs.Prelude.{ℕ, ◌+◌, ◌-◌, nat_lt, nat_le, ◌&&◌, Bool, if◌then◌else◌, List, [], ◌∷◌}
use Rattle.std.specs.Prelude.{map, ◌++◌, Option, Some, None}
use Rattle.std.specs.List.{filter, list_any}
use Rattle.rowan_green.specs.Fits.{byte_limit}
use Rattle.rowan_terms.specs.Path.{Path, offset, shifted}
use Rattle.rowan_green.specs.Span.{Span}
use Rattle.rowan_green.specs.Term.{Term, sum_of_lens}
use Rattle.rowan_changes.specs.declared.changes.Change.{Change}
use Rattle.rowan_changes.specs.Edit.{Edit, place, lies_before}

-- ---- the changes that edits of a tree make

-- where an edit ends
abbrev pub end_place : Edit → Path
end_place e = e.parent ++ e.end ∷ []

-- where the children lie that an edit takes away: from the number of bytes before the place where
-- it begins to the number of bytes before the place where it ends
abbrev pub range_of : Term → Edit → Span
range_of t e = record { start = offset t (place e); end = offset t (end_place e) }

abbrev pub change_of : Term → Edit → Change
change_of t e = record { range = range_of t e; new_len = sum_of_lens e.new }

-- an edit's range, and the length of the texts of its new terms, one after the other
abbrev pub changes_of : Term → List Edit → List Change
changes_of t es = map (change_of t) es

-- the edits that end before the place at a path
abbrev pub edits_before : Path → List Edit → List Edit
edits_before p es = filter (λ e. lies_before e.parent e.end p) es

-- ---- where a range goes

-- how many bytes give way, and how many come in their place
abbrev pub old_bytes : List Change → ℕ
old_bytes [] = 0
old_bytes (c ∷ cs) = c.range.end - c.range.start + old_bytes cs

abbrev pub new_bytes : List Change → ℕ
new_bytes [] = 0
new_bytes (c ∷ cs) = c.new_len + new_bytes cs

-- the change starts before the range ends, and ends where the range starts or before; so an empty
-- range stays before what is put at its place
abbrev pub is_ahead : Span → Change → Bool
is_ahead r c = nat_lt c.range.start r.end && nat_le c.range.end r.start

-- each of the two starts before the other ends
abbrev pub overlaps : Span → Change → Bool
overlaps r c = nat_lt c.range.start r.end && nat_lt r.start c.range.end

abbrev pub within_limit : Span → Option Span
within_limit r = if nat_le r.end byte_limit then Some r else None

-- a range of the old text in the new one: moved by as much as the changes ahead of it make the text
-- longer or shorter; nowhere, if it overlaps a change or would end past the limit
abbrev pub moved_through : List Change → Span → Option Span
moved_through cs r =
    let ahead = filter (is_ahead r) cs in
    if list_any (overlaps r) cs then None
    else within_limit (shifted (old_bytes ahead) (new_bytes ahead) r)
