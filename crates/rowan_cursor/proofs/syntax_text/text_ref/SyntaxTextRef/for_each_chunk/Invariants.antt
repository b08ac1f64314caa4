use Rattle.rowan_cursor.specs.Folds.{VisitsAll}
use Rattle.rowan_cursor.specs.RefTexts.{text_slice, rest_of_chunks}
use Rattle.rowan_table.specs.SyntaxText.{chunks}
use Rattle.rowan_cursor.proofs.syntax_text.text_ref.SyntaxTextRef.for_each_chunk.Given as goal

-- the calls that are still to come end as all calls do
abbrev pub invariant-loop-chunk : goal.invariant-loop-chunk
invariant-loop-chunk g l =
    goal.F-IsAlwaysCallable g l.f
    × ((last : _) → VisitsAll g.F.FnMut l.f (rest_of_chunks l.chunk-iterator) last
    → VisitsAll g.F.FnMut l.fn.f (chunks (text_slice l.self)) last)
