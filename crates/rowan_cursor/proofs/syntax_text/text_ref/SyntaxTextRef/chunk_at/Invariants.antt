use Rattle.std.proofs.Common.{◌≡◌, ℕ, ◌+◌, List, ◌++◌, length}
use Rattle.std.specs.List.{concat}
use Rattle.rowan_cursor.specs.RefTexts.{text_slice, rest_of_chunks}
use Rattle.rowan_table.specs.SyntaxText.{slice_text}
use Rattle.rowan_cursor.proofs.syntax_text.text_ref.SyntaxTextRef.chunk_at.Given as goal

-- the byte is as far from what is left as its place says
abbrev pub invariant-loop-chunk : goal.invariant-loop-chunk
invariant-loop-chunk l =
    (before : List ℕ) × (before ++ concat (rest_of_chunks l.chunk-iterator)
    ≡ slice_text (text_slice l.self)) × (length before + l.place ≡ l.fn.offset)
