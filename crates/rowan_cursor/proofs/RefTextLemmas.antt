-- Texts that are borrowed from their tree: their chunks joined are their bytes.
use Rattle.std.proofs.Common.{◌≡◌, ◌≤◌, ℕ, List, [], ◌∷◌, ◌++◌, length, sym, ◌∙◌, ap, arith}
use Rattle.std.proofs.Common.{append_assoc}
use Rattle.std.proofs.lemmas.List.{append-nil}
use Rattle.std.specs.List.{concat}
use Rattle.rowan_green.specs.Fits.{byte_limit}
use Rattle.rowan_cursor.specs.declared.syntax_text.chunks.SyntaxTextChunks.{SyntaxTextChunks}
use Rattle.rowan_cursor.specs.declared.syntax_text.text_ref.SyntaxTextRef.{SyntaxTextRef}
use Rattle.rowan_cursor.specs.RefTexts.{text_slice, rest_of_chunks}
use Rattle.rowan_table.specs.SyntaxText.{slice_text, slice_len, chunks}
use Rattle.rowan_table.specs.TableView.{entries_of}
use Rattle.rowan_table.proofs.PartLemmas.{slice_ends}
use Rattle.rowan_table.proofs.SliceLemmas.{chunks-joined, slice_text-len}
use Rattle.rowan_table.proofs.TokenLemmas.{stands_at}

-- the chunks of a text, one after the other, are its bytes
pub text_joined : (r : SyntaxTextRef) → concat (chunks (text_slice r)) ≡ slice_text (text_slice r)
text_joined r =
    let table = r.table.now.value in
    let there = stands_at (entries_of table) table.complete r.slice.node r.within.node.within in
    chunks-joined (text_slice r) there.0 there.1 r.within.slice

-- a text has as many bytes as its range
pub text_len : (r : SyntaxTextRef) → length (slice_text (text_slice r)) ≡ slice_len (text_slice r)
text_len r =
    let table = r.table.now.value in
    let there = stands_at (entries_of table) table.complete r.slice.node r.within.node.within in
    slice_text-len (text_slice r) there.0 there.1 r.within.slice

-- a text has no more bytes than an offset counts
pub text_fits : (r : SyntaxTextRef) → length (slice_text (text_slice r)) ≤ byte_limit
text_fits r = omega (arith, text_len r, slice_ends r.table.now.value r.slice r.within)

-- at its start a walk over the chunks of a text has all of them
pub all_left : (r : SyntaxTextRef) (i j : SyntaxTextChunks) → j ≡ i
    → rest_of_chunks i ≡ chunks (text_slice r)
    → concat (rest_of_chunks j) ≡ slice_text (text_slice r)
all_left r i j same start = ap (λ k. concat (rest_of_chunks k)) same ∙ ap concat start
    ∙ text_joined r

-- a chunk more of a text is read
pub read_on : (text before chunk : List ℕ) (i j : SyntaxTextChunks)
    → rest_of_chunks i ≡ chunk ∷ rest_of_chunks j → before ++ concat (rest_of_chunks i) ≡ text
    → (before ++ chunk) ++ concat (rest_of_chunks j) ≡ text
read_on text before chunk i j step so_far =
    append_assoc before chunk (concat (rest_of_chunks j))
    ∙ sym (ap (λ cs. before ++ concat cs) step) ∙ so_far

-- where no chunk is left, all of a text is read
pub all_read : (text before : List ℕ) (i : SyntaxTextChunks) → rest_of_chunks i ≡ []
    → before ++ concat (rest_of_chunks i) ≡ text → text ≡ before
all_read text before i none so_far =
    sym so_far ∙ ap (λ cs. before ++ concat cs) none ∙ append-nil before
