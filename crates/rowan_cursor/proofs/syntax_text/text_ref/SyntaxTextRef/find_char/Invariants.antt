use Rattle.std.specs.List.{concat}
use Rattle.rowan_cursor.specs.RefTexts.{text_slice, rest_of_chunks}
use Rattle.rowan_table.specs.SyntaxText.{slice_text}
use Rattle.rowan_cursor.proofs.CharLemmas.{HasPassed}
use Rattle.rowan_cursor.proofs.syntax_text.text_ref.SyntaxTextRef.find_char.Given as goal

-- the character begins at no byte of the chunks that were taken
abbrev pub invariant-loop-chunk : goal.invariant-loop-chunk
invariant-loop-chunk l =
    HasPassed (slice_text (text_slice l.self)) l.passed l.c
    (concat (rest_of_chunks l.chunk-iterator))
