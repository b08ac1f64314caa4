use Rattle.std.proofs.Common.{◌+◌, length, ap, subst, rules, arith}
use Rattle.std.specs.List.{concat}
use Rattle.rowan_cursor.specs.RefTexts.{text_slice, rest_of_chunks}
use Rattle.rowan_table.specs.SyntaxText.{slice_text}
use Rattle.rowan_cursor.proofs.CharLemmas.{HasPassed, nothing_passed, next_fits, pass_chunk}
use Rattle.rowan_cursor.proofs.CharLemmas.{first_in_chunk, all_passed}
use Rattle.rowan_cursor.proofs.RefTextLemmas.{text_fits, all_left}
use Rattle.rowan_cursor.proofs.syntax_text.text_ref.SyntaxTextRef.find_char.Goals as goal

pub loop-chunk-init : goal.loop-chunk-init
loop-chunk-init c =
    nothing_passed (slice_text (text_slice c.args.self.now))
    (concat (rest_of_chunks c.into_iter-chunk-iterator.result)) c.args.c
    (all_left c.args.self.now _ _ c.into_iter-chunk-iterator.ensures.into_iter_gives
    c.chunks-chunk-items.ensures)

pub overflow_cast-passed : goal.overflow_cast-passed
overflow_cast-passed c =
    let text = slice_text (text_slice c.args.self.now) in
    let passed = subst (HasPassed text c.loop-chunk.passed c.args.c)
    (ap concat c.in-Some.ensures.steps) c.loop-chunk.invariant in
    omega (
      arith,
      next_fits text c.in-Some.chunk.now (concat (rest_of_chunks c.next.new.self))
          c.loop-chunk.passed c.args.c (text_fits c.args.self.now) passed,
      c.in-Some-find.ensures.cases.3.0,
    )

pub overflow_add-passed : goal.overflow_add-passed
overflow_add-passed c = omega (arith, overflow_cast-passed c)

pub overflow_add-passed-in-loop-chunk : goal.overflow_add-passed-in-loop-chunk
overflow_add-passed-in-loop-chunk c =
    let text = slice_text (text_slice c.args.self.now) in
    let passed = subst (HasPassed text c.loop-chunk.passed c.args.c)
    (ap concat c.in-Some.ensures.steps) c.loop-chunk.invariant in
    omega (
      arith,
      next_fits text c.in-Some.chunk.now (concat (rest_of_chunks c.next.new.self))
          c.loop-chunk.passed c.args.c (text_fits c.args.self.now) passed,
    )

pub returns-in-Some-find : goal.returns-in-Some-find
returns-in-Some-find c =
    let text = slice_text (text_slice c.args.self.now) in
    let passed = subst (HasPassed text c.loop-chunk.passed c.args.c)
    (ap concat c.in-Some.ensures.steps) c.loop-chunk.invariant in
    first_in_chunk text c.in-Some.chunk.now (concat (rest_of_chunks c.next.new.self))
    c.loop-chunk.passed c.in-Some-find.place c.from.result c.args.c (search rules) (search rules)
    c.in-Some-find.ensures.cases passed c.from.ensures

pub loop-chunk-preserved : goal.loop-chunk-preserved
loop-chunk-preserved c =
    let text = slice_text (text_slice c.args.self.now) in
    let passed = subst (HasPassed text c.loop-chunk.passed c.args.c)
    (ap concat c.in-Some.ensures.steps) c.loop-chunk.invariant in
    pass_chunk text c.in-Some.chunk.now (concat (rest_of_chunks c.next.new.self))
    c.loop-chunk.passed (c.loop-chunk.passed + length c.in-Some.chunk.now) c.args.c
    (search rules) (search rules) c.in_default.ensures.cases passed (omega arith)

pub returns : goal.returns
returns c =
    let text = slice_text (text_slice c.args.self.now) in
    all_passed text c.loop-chunk.passed c.args.c
    (subst (HasPassed text c.loop-chunk.passed c.args.c)
    (ap concat c.in-None.ensures.steps.0) c.loop-chunk.invariant)
