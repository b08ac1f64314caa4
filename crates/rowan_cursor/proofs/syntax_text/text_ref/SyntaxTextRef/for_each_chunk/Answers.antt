use Rattle.std.proofs.Common.{◌∙◌, ap, subst}
use Rattle.rowan_cursor.specs.Folds.{VisitsAll}
use Rattle.rowan_cursor.specs.RefTexts.{rest_of_chunks}
use Rattle.rowan_cursor.proofs.syntax_text.text_ref.SyntaxTextRef.for_each_chunk.Goals as goal

pub loop-chunk-init : goal.loop-chunk-init
loop-chunk-init g c = (
  c.requires,
  λ last h. subst (λ cs. VisitsAll g.F.FnMut c.args.f cs last)
      (ap rest_of_chunks c.into_iter-chunk-iterator.ensures.into_iter_gives
      ∙ c.chunks-chunk-items.ensures) h,
)
