use Rattle.std.proofs.Common.{◌≡◌, ◌≤◌, [], length, take, vec_len, vec_capacity}
use Rattle.rowan_builder.specs.Loan.{value_of, loan_of}
use Rattle.rowan_script.specs.Run.{Run}
use Rattle.rowan_script.proofs.Runs.{with_marks}
use Rattle.rowan_script.proofs.script.replay.Given as goal

abbrev pub invariant-loop-call : goal.invariant-loop-call
invariant-loop-call g l = record {
  run : Run (value_of l.initial.builder) (take l.call-index l.calls) l.outcomes.items
      (value_of l.builder);
  loan : loan_of l.builder ≡ loan_of l.initial.builder;
  marks : l.marks.items ≡ with_marks [] l.outcomes.items;
  outcomes_room : length l.calls ≤ vec_capacity l.outcomes;
  outcomes_len : vec_len l.outcomes ≡ l.call-index;
  marks_room : length l.calls ≤ vec_capacity l.marks;
  marks_len : vec_len l.marks ≤ l.call-index;
}
