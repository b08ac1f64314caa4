use Rattle.std.proofs.Common.{[], ◌++◌, refl, sym, ◌∙◌, ap, rules, append_assoc}
use Rattle.std.proofs.lemmas.Bool.{false≢true}
use Rattle.std.proofs.lemmas.List.{append_cancel_left}
use Rattle.std.specs.List.{concat}
use Rattle.rowan_cursor.specs.RefTexts.{text_slice, rest_of_chunks}
use Rattle.rowan_table.specs.SyntaxText.{slice_text}
use Rattle.rowan_cursor.proofs.RefTextLemmas.{all_left, read_on}
use Rattle.rowan_cursor.proofs.syntax_text.text_ref.SyntaxTextRef.eq_str.Goals as goal

pub loop-chunk-init : goal.loop-chunk-init
loop-chunk-init c = (
  search rules,
  (
    [],
    all_left c.args.self.now _ _ c.into_iter-chunk-iterator.ensures.into_iter_gives
        c.chunks-chunk-items.ensures,
    refl,
  ),
)

pub loop-chunk-preserved : goal.loop-chunk-preserved
loop-chunk-preserved c =
    let before = c.loop-chunk.invariant.1 in
    let chunk = c.in-Some.chunk.now in
    let strip = c.in-Some-strip_prefix.ensures.cases in (
      search rules,
      (
        before.0 ++ chunk,
        read_on (slice_text (text_slice c.args.self.now)) before.0 chunk
            c.loop-chunk.chunk-iterator c.next.new.self c.in-Some.ensures.steps before.1,
        before.2 ∙ ap (λ us. before.0 ++ us) (strip.1.1 ∙ ap (λ us. chunk ++ us) (sym strip.2))
            ∙ sym (append_assoc before.0 chunk c.in-Some-strip_prefix.after.now),
      ),
    )

pub returns-in-None-strip_prefix : goal.returns-in-None-strip_prefix
returns-in-None-strip_prefix c =
    let before = c.loop-chunk.invariant.1 in
    let later = concat (rest_of_chunks c.next.new.self) in (
      (λ h. absurd (false≢true h)),
      (λ e. absurd (c.in-None-strip_prefix.ensures.cases later
          (append_cancel_left before.0 c.loop-chunk.rest.now (c.in-Some.chunk.now ++ later)
          (sym before.2 ∙ sym e ∙ sym before.1
          ∙ ap (λ cs. before.0 ++ concat cs) c.in-Some.ensures.steps)))),
    )
