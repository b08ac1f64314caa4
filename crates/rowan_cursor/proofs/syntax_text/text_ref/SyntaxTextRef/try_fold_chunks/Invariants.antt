use Rattle.rowan_cursor.specs.Folds.{FoldsUntilErr}
use Rattle.rowan_cursor.specs.RefTexts.{text_slice, rest_of_chunks}
use Rattle.rowan_table.specs.SyntaxText.{chunks}
use Rattle.rowan_cursor.proofs.syntax_text.text_ref.SyntaxTextRef.try_fold_chunks.Given as goal

-- the calls that are still to come end as all calls do
abbrev pub invariant-loop-chunk : goal.invariant-loop-chunk
invariant-loop-chunk g l =
    goal.F-IsAlwaysCallable g l.f
    × ((r : _) (last : _) → FoldsUntilErr g.F.FnMut l.f l.total (rest_of_chunks l.chunk-iterator) r
    last → FoldsUntilErr g.F.FnMut l.fn.f l.fn.init (chunks (text_slice l.self)) r last)
