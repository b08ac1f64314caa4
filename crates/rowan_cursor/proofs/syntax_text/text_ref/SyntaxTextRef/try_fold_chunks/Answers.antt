use Rattle.std.proofs.Common.{refl, ◌∙◌, ap, subst}
use Rattle.std.specs.Prelude.{Err}
use denote.Param.Always.{mut_next}
use Rattle.rowan_cursor.specs.Folds.{FoldsUntilErr}
use Rattle.rowan_cursor.specs.RefTexts.{rest_of_chunks}
use Rattle.rowan_cursor.proofs.FoldLemmas.{fold_ok, fold_err}
use Rattle.rowan_cursor.proofs.syntax_text.text_ref.SyntaxTextRef.try_fold_chunks.Goals as goal

pub loop-chunk-init : goal.loop-chunk-init
loop-chunk-init g c = (
  c.requires,
  λ r last h. subst (λ cs. FoldsUntilErr g.F.FnMut c.args.f c.args.init cs r last)
      (ap rest_of_chunks c.into_iter-chunk-iterator.ensures.into_iter_gives
      ∙ c.chunks-chunk-items.ensures) h,
)

pub loop-chunk-preserved : goal.loop-chunk-preserved
loop-chunk-preserved g c = (
  mut_next g.F.FnMut _ _ _ _ _ c.f.ensures refl c.loop-chunk.invariant.0,
  λ r last rest. c.loop-chunk.invariant.1 r last
      (fold_ok g.F.FnMut c.loop-chunk.f c.f.new.self last c.loop-chunk.total c.in-Ok.next
      c.in-Some.chunk (rest_of_chunks c.loop-chunk.chunk-iterator)
      (rest_of_chunks c.next.new.self) c.f.result r c.in-Some.ensures.steps c.f.ensures
      c.in-Ok.is rest),
)

pub returns-in-Err : goal.returns-in-Err
returns-in-Err g c = (
  c.f.new.self,
  c.loop-chunk.invariant.1 (Err c.in-Err.refusal) c.f.new.self
      (fold_err g.F.FnMut c.loop-chunk.f c.f.new.self c.loop-chunk.total c.in-Err.refusal
      c.in-Some.chunk (rest_of_chunks c.loop-chunk.chunk-iterator)
      (rest_of_chunks c.next.new.self) c.f.result c.in-Some.ensures.steps c.f.ensures
      c.in-Err.is),
)
