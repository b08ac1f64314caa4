-- Texts that are borrowed from their tree, as what a clause sees of them.
use Rattle.std.specs.Prelude.{ℕ, List}
use Rattle.rowan_cursor.specs.declared.syntax_text.chunks.SyntaxTextChunks.{SyntaxTextChunks}
use Rattle.rowan_cursor.specs.declared.syntax_text.text_ref.SyntaxTextRef.{SyntaxTextRef}
use Rattle.rowan_table.specs.Chunks.{slice_of, remaining_chunks}
use Rattle.rowan_table.specs.SyntaxText.{TextSlice}

-- the slice of text that is borrowed
abbrev pub text_slice : SyntaxTextRef → TextSlice
text_slice r = slice_of r.table.now.value r.slice

-- the chunks that are still to come
abbrev pub rest_of_chunks : SyntaxTextChunks → List (List ℕ)
rest_of_chunks i = remaining_chunks i.table.now.value i.walk
