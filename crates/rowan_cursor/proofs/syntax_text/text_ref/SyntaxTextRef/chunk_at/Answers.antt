use Rattle.std.proofs.Common.{◌<◌, ◌≤◌, ◌++◌, length, sym, ◌∙◌, ap, subst, arith, rules}
use Rattle.std.proofs.Common.{length-append}
use Rattle.std.specs.List.{concat}
use Rattle.rowan_cursor.specs.RefTexts.{text_slice, rest_of_chunks}
use Rattle.rowan_table.specs.SyntaxText.{slice_text}
use Rattle.std.proofs.lemmas.List.Folds.{concat-append}
use Rattle.rowan_table.specs.Chunks.{remaining_chunks, WalksOver}
use Rattle.rowan_cursor.proofs.RefTextLemmas.{text_joined, read_on, all_read}
use Rattle.rowan_cursor.proofs.syntax_text.text_ref.SyntaxTextRef.chunk_at.Goals as goal

pub loop-chunk-init : goal.loop-chunk-init
loop-chunk-init c =
    let text = c.args.self.now in
    let walk = c.walk_over-walk.result in
    let over = subst (λ t. WalksOver t text.slice c.args.offset walk) c.deref.ensures
    c.walk_over-walk.ensures.over in
    let before = concat over.before in (
      before,
      ap (λ i. before ++ concat (rest_of_chunks i))
          c.into_iter-chunk-iterator.ensures.into_iter_gives
          ∙ ap (λ cs. before ++ concat cs) c.new-chunk-items.ensures
          ∙ sym (concat-append over.before (remaining_chunks text.table.now.value walk))
          ∙ ap concat (sym over.parts) ∙ text_joined text,
      omega (arith, over.len, over.early, c.from.ensures, c.passed.ensures),
    )

pub returns-then-place-chunk : goal.returns-then-place-chunk
returns-then-place-chunk c =
    let before = c.loop-chunk.invariant in
    let here : c.loop-chunk.place < length c.in-Some.chunk.now = search rules in
    record {
      before = before.0;
      after = concat (rest_of_chunks c.next.new.self);
      parts = sym before.1 ∙ ap (λ cs. before.0 ++ concat cs) c.in-Some.ensures.steps;
      at = before.2;
      within = here;
    }

pub loop-chunk-preserved : goal.loop-chunk-preserved
loop-chunk-preserved c =
    let before = c.loop-chunk.invariant in
    let chunk = c.in-Some.chunk.now in
    let past : length chunk ≤ c.loop-chunk.place = search rules in (
      before.0 ++ chunk,
      read_on (slice_text (text_slice c.args.self.now)) before.0 chunk
          c.loop-chunk.chunk-iterator c.next.new.self c.in-Some.ensures.steps before.1,
      omega (arith, before.2, length-append before.0 chunk, past),
    )

pub returns : goal.returns
returns c =
    let before = c.loop-chunk.invariant in
    let text = all_read (slice_text (text_slice c.args.self.now)) before.0
    c.loop-chunk.chunk-iterator c.in-None.ensures.steps.0 before.1 in
    omega (arith, ap length text, before.2)
