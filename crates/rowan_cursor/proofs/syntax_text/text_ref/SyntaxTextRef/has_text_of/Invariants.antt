use Rattle.std.proofs.Common.{◌≡◌, ℕ, ◌+◌, List, ◌++◌, length}
use Rattle.std.specs.List.{concat}
use Rattle.rowan_cursor.specs.RefTexts.{text_slice, rest_of_chunks}
use Rattle.rowan_table.specs.SyntaxText.{slice_text}
use Rattle.rowan_cursor.proofs.syntax_text.text_ref.SyntaxTextRef.has_text_of.Given as goal

-- both texts begin alike, and what is left of each
abbrev pub invariant-loop-chunk : goal.invariant-loop-chunk
invariant-loop-chunk l =
    (before : List ℕ) × (before ++ concat (rest_of_chunks l.chunk-iterator)
    ≡ slice_text (text_slice l.self))
    × (before ++ (l.theirs ++ concat (rest_of_chunks l.others)) ≡ slice_text (text_slice l.other))

abbrev pub invariant-loop-mine : goal.invariant-loop-mine
invariant-loop-mine l =
    (before : List ℕ) × (before ++ (l.mine ++ concat (rest_of_chunks l.chunk-iterator))
    ≡ slice_text (text_slice l.self))
    × (before ++ (l.theirs ++ concat (rest_of_chunks l.others)) ≡ slice_text (text_slice l.other))

-- each round takes a chunk of the other text, or bytes of this one
abbrev pub decreases-loop-mine : goal.decreases-loop-mine
decreases-loop-mine l = length l.mine + length (rest_of_chunks l.others)
