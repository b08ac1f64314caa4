use Rattle.std.proofs.Common.{◌≡◌, [], ◌∷◌, ◌++◌, take, vec_len, vec_capacity, sym, ◌∙◌, ap, subst}
use Rattle.std.proofs.Common.{arith}
use Rattle.std.proofs.lemmas.List.{take_all}
use Rattle.rowan_builder.specs.Loan.{value_of}
use Rattle.rowan_script.specs.Rewriting.{with_mark}
use Rattle.rowan_script.specs.Run.{Run}
use Rattle.rowan_script.proofs.RunLaws.{builds-run}
use Rattle.rowan_script.proofs.Runs.{with_mark-other, with_marks-more, Run-more}
use Rattle.rowan_script.proofs.script.replay.Goals as goal
use Rattle.rowan_script.proofs.script.replay.Goals.{in-Marked, in_default}

pub loop-call-preserved : goal.loop-call-preserved
loop-call-preserved g c =
    let here = c.loop-call.outcomes.items in
    let same : c.match-outcome.outcome ≡ c.make_call-outcome.result = elim c.match-outcome.branch
    [ in-Marked w ↦ w.outcome-is ∙ sym w.in-Marked.is | in_default w ↦ w.outcome-is ] in
    let more : c.push_reserved-in-loop-call.new.self.items ≡ here
    ++ c.make_call-outcome.result ∷ [] = c.push_reserved-in-loop-call.ensures.items
    ∙ ap (λ o. here ++ o ∷ []) same in
    let marks : c.match-outcome.marks.items ≡ with_mark c.loop-call.marks.items
    c.make_call-outcome.result = elim c.match-outcome.branch [
      | in-Marked w ↦ ap (λ v. v.items) w.marks-is ∙ w.push_reserved.ensures.items
          ∙ ap (λ o. with_mark c.loop-call.marks.items o) (sym w.in-Marked.is)
      | in_default w ↦ ap (λ v. v.items) w.marks-is
          ∙ sym (with_mark-other c.loop-call.marks.items c.make_call-outcome.result
          w.in_default.not-Marked)
    ] in
    record {
      run = Run-more c.args.calls.now c.loop-call.call-index here
          c.push_reserved-in-loop-call.new.self.items c.as_slice.result.now
          (value_of c.args.builder.now) (value_of c.loop-call.builder)
          (value_of c.make_call-outcome.new.builder) c.call-item.result c.make_call-outcome.result
          c.loop-call-test.true c.call-item.is more (c.as_slice.ensures.value
          ∙ c.loop-call.invariant.marks) c.loop-call.invariant.run
          c.make_call-outcome.ensures.advances;
      loan = c.make_call-outcome.ensures.loan ∙ c.loop-call.invariant.loan;
      marks = with_marks-more c.loop-call.marks.items c.match-outcome.marks.items here
          c.push_reserved-in-loop-call.new.self.items c.make_call-outcome.result
          c.loop-call.invariant.marks more marks;
      outcomes_room = omega arith;
      outcomes_len = omega arith;
      marks_room = elim c.match-outcome.branch [
        | in-Marked w ↦ omega (arith, ap vec_capacity w.marks-is)
        | in_default w ↦ omega (arith, ap vec_capacity w.marks-is)
      ];
      marks_len = elim c.match-outcome.branch [
        | in-Marked w ↦ omega (arith, ap vec_len w.marks-is)
        | in_default w ↦ omega (arith, ap vec_len w.marks-is)
      ];
    }

pub returns-clause-stream : goal.returns-clause-stream
returns-clause-stream g c =
    builds-run (value_of c.args.builder.now) (value_of c.loop-call.builder)
    (take c.loop-call.call-index c.args.calls.now) c.loop-call.outcomes.items
    c.loop-call.invariant.run

pub returns-clause-run : goal.returns-clause-run
returns-clause-run g c = subst (λ calls. Run (value_of c.args.builder.now) calls
    c.loop-call.outcomes.items (value_of c.loop-call.builder))
    (take_all c.loop-call.call-index c.args.calls.now (omega arith)) c.loop-call.invariant.run
