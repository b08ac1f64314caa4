use Rattle.std.proofs.Common.{◌++◌, [], true, refl}
use Rattle.std.proofs.Output.{has_written_append, writes_in_calls_nil}
use Rattle.rowan_cursor.specs.RefTexts.{text_slice}
use Rattle.rowan_table.specs.SyntaxText.{slice_text}
use Rattle.rowan_cursor.proofs.RefTextLemmas.{all_left, read_on}
use Rattle.rowan_cursor.proofs.syntax_text.text_ref.SyntaxTextRefDisplay.fmt.Goals as goal

pub loop-chunk-init : goal.loop-chunk-init
loop-chunk-init g c = (
  [],
  all_left c.args.self.now _ _ c.into_iter-chunk-iterator.ensures.into_iter_gives
      c.chunks-chunk-items.ensures,
  λ plain. record { wrote = writes_in_calls_nil _ _; plain = plain },
)

pub loop-chunk-preserved : goal.loop-chunk-preserved
loop-chunk-preserved g c =
    let written = c.loop-chunk.invariant in
    let chunk = c.in-Some.chunk.now in (
      written.0 ++ chunk,
      read_on (slice_text (text_slice c.args.self.now)) written.0 chunk
          c.loop-chunk.chunk-iterator c.next.new.self c.in-Some.ensures.steps written.1,
      λ plain. has_written_append _ _ _ _ _ _ (written.2 plain)
          (c.in_ok-write_str.ensures.writes (written.2 plain).plain (refl {a = true})),
    )
