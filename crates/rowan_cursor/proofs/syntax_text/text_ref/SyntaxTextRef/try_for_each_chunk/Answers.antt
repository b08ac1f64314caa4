use Rattle.std.proofs.Common.{refl, ◌∙◌, ap, subst}
use Rattle.std.specs.Prelude.{Err}
use denote.Param.Always.{mut_next}
use Rattle.rowan_cursor.specs.Folds.{VisitsUntilErr}
use Rattle.rowan_cursor.specs.RefTexts.{rest_of_chunks}
use Rattle.rowan_cursor.proofs.FoldLemmas.{visit_ok, visit_err}
use Rattle.rowan_cursor.proofs.syntax_text.text_ref.SyntaxTextRef.try_for_each_chunk.Goals as goal

pub loop-chunk-init : goal.loop-chunk-init
loop-chunk-init g c = (
  c.requires,
  λ r last h. subst (λ cs. VisitsUntilErr g.F.FnMut c.args.f cs r last)
      (ap rest_of_chunks c.into_iter-chunk-iterator.ensures.into_iter_gives
      ∙ c.chunks-chunk-items.ensures) h,
)

pub loop-chunk-preserved : goal.loop-chunk-preserved
loop-chunk-preserved g c = (
  mut_next g.F.FnMut _ _ _ _ _ c.f.ensures refl c.loop-chunk.invariant.0,
  λ r last rest. c.loop-chunk.invariant.1 r last
      (visit_ok g.F.FnMut c.loop-chunk.f c.f.new.self last tt c.in-Some.chunk
      (rest_of_chunks c.loop-chunk.chunk-iterator) (rest_of_chunks c.next.new.self)
      c.f.result r c.in-Some.ensures.steps c.f.ensures c.in-Ok.is rest),
)

pub returns-in-Err : goal.returns-in-Err
returns-in-Err g c = (
  c.f.new.self,
  c.loop-chunk.invariant.1 (Err c.in-Err.refusal) c.f.new.self
      (visit_err g.F.FnMut c.loop-chunk.f c.f.new.self c.in-Err.refusal c.in-Some.chunk
      (rest_of_chunks c.loop-chunk.chunk-iterator) (rest_of_chunks c.next.new.self)
      c.f.result c.in-Some.ensures.steps c.f.ensures c.in-Err.is),
)
