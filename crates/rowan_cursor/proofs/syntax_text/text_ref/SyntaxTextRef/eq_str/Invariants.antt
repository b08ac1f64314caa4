use Rattle.std.proofs.Common.{◌≡◌, ℕ, List, ◌++◌}
use Rattle.std.specs.List.{concat}
use denote.Text.{Utf8}
use denote.Shadow.{shadow}
use Rattle.rowan_cursor.specs.RefTexts.{text_slice, rest_of_chunks}
use Rattle.rowan_table.specs.SyntaxText.{slice_text}
use Rattle.rowan_cursor.proofs.syntax_text.text_ref.SyntaxTextRef.eq_str.Given as goal

-- both texts begin alike
abbrev pub invariant-loop-chunk : goal.invariant-loop-chunk
invariant-loop-chunk l =
    shadow (Utf8 l.rest)
    × ((before : List ℕ) × (before ++ concat (rest_of_chunks l.chunk-iterator)
    ≡ slice_text (text_slice l.self)) × (l.text ≡ before ++ l.rest))
