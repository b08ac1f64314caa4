use Rattle.std.proofs.Common.{◌∙◌, sym, subst}
use Rattle.std.proofs.lemmas.Bool.{false≢true}
use Rattle.std.specs.Str.Iter.{chars_rest}
use Rattle.rowan_cursor.specs.RefTexts.{text_slice}
use Rattle.rowan_table.specs.SyntaxText.{slice_text, ReadsChar}
use Rattle.rowan_cursor.proofs.CharLemmas.{char_past, char_border, char_read}
use Rattle.rowan_cursor.proofs.syntax_text.text_ref.SyntaxTextRef.char_at.Goals as goal

pub returns-in_err-chunk : goal.returns-in_err-chunk
returns-in_err-chunk c =
    let text = slice_text (text_slice c.args.self.now) in
    subst (ReadsChar text c.args.offset) (sym c.from_residual.ensures)
    (λ ch s h. char_past text c.args.offset ch c.in_err-chunk.ensures h)

pub returns-then-not-is_char_boundary : goal.returns-then-not-is_char_boundary
returns-then-not-is_char_boundary c =
    let text = slice_text (text_slice c.args.self.now) in
    λ ch s h. false≢true (c.if-not-is_char_boundary.ensures.test.1
    (char_border text c.args.offset c.in_ok-chunk.chunk.now c.in_ok-chunk.place ch
    c.in_ok-chunk.ensures s h))

pub returns : goal.returns
returns c =
    let text = slice_text (text_slice c.args.self.now) in
    char_read _ text c.args.offset c.in_ok-chunk.chunk.now c.in_ok-chunk.place c.next.result
    (chars_rest c.chars.result) (chars_rest c.next.new.self) c.in_ok-chunk.ensures
    (c.chars.ensures.rest ∙ c.range_from.ensures.value) c.next.ensures.steps.0
